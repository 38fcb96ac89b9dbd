-- What the reply and the bytes of a call that writes say: nothing is written where it is refused, and nothing past the text. Assumes nothing.
use Prim.Native.Nat.{ℕ, ◌≤◌}
use native.Mathlib.Omega.{arith}
use mathlib.Core.Path.{◌≡◌, sym, ap, ◌∙◌}
use mathlib.Core.List.{◌++◌}
use lib.Dec.{leb, leb→le}
use lib.ListN.{length, take, drop, length-append, length-drop}
use lib.Seq.{take-append_seam, drop-append_seam}
use Rattle.fields.specs.Pieces.{Bytes}
use Rattle.model.proofs.Tests.{cond_cases}
use Rattle.services.specs.declared.Reply.{Reply}
use Rattle.services.specs.Outcomes.{Outcome, writes, refuses, lent, reply_of, bytes_after, Replied}
use Rattle.services.specs.Promises.{Lent}

-- the outcomes of a call that writes
pub data Writing : Outcome → Type 0 where
  text : (t : Bytes) → Writing (writes t)
  refusal : (n f p : ℕ) → Writing (refuses n f p)

module _ (out : Bytes) (r : Reply) (after : Bytes) where
  -- the text where it fits, and 13 where it does not
  pub by_room : (P : Type 0) (t : Bytes) → r ≡ reply_of (lent (length out) (writes t)) → after ≡ bytes_after (lent (length out) (writes t)) out
      → (length t ≤ length out → r ≡ reply_of (writes t) → after ≡ t ++ drop (length t) out → P) → (r ≡ reply_of (refuses 13 0 0) → after ≡ out → P) → P
  by_room P t e b f g =
      cond_cases (λ o. r ≡ reply_of o → after ≡ bytes_after o out → P) (leb (length t) (length out)) (writes t) (refuses 13 0 0)
      (λ u. f (leb→le (length t) (length out) u)) (λ u. g) e b

  written_is : (t : Bytes) → r ≡ reply_of (writes t) → after ≡ t ++ drop (length t) out → take r.length after ≡ t
  written_is t e b = ap (λ (q : Reply). take q.length after) e ∙ ap (take (length t)) b ∙ take-append_seam t (drop (length t) out)

  lent_told : {o : Outcome} → Writing o → r ≡ reply_of (lent (length out) o) → after ≡ bytes_after (lent (length out) o) out → Lent o out r after
  lent_told (text t) e b =
      record {
        replied = record { reply = e; bytes = b };
        refused_unchanged = by_room ((r.number ≡ 0 → ⊥) → after ≡ out) t e b (λ u q w n. absurd (n (ap (λ (q : Reply). q.number) q))) (λ q w n. w);
        rest_unchanged = by_room (r.number ≡ 0 → drop r.length after ≡ drop r.length out) t e b
            (λ u q w n. ap (λ (q : Reply). drop q.length after) q ∙ ap (drop (length t)) w ∙ drop-append_seam t (drop (length t) out)
            ∙ sym (ap (λ (q : Reply). drop q.length out) q))
            (λ q w n. ap (drop r.length) w);
        length_fits = by_room (r.number ≡ 0 → r.length ≤ length out) t e b
            (λ u q w n. let same = ap (λ (q : Reply). q.length) q in omega arith) (λ q w n. let same = ap (λ (q : Reply). q.length) q in omega arith);
        length_stays = by_room (length after ≡ length out) t e b
            (λ u q w. let all = ap length w ∙ length-append t (drop (length t) out) in let rest = length-drop (length t) out in omega arith) (λ q w. ap length w);
      }
  lent_told (refusal n f p) e b =
      record {
        replied = record { reply = e; bytes = b };
        refused_unchanged = λ m. b;
        rest_unchanged = λ m. ap (drop r.length) b;
        length_fits = λ m. let same = ap (λ (q : Reply). q.length) e in omega arith;
        length_stays = ap length b;
      }

  pub lent_replies : {o : Outcome} → Writing o → Replied o out r after → Lent o out r after
  lent_replies w a = lent_told w a.reply a.bytes

  -- what is written, where something is
  pub written_text : (t : Bytes) → r ≡ reply_of (lent (length out) (writes t)) → after ≡ bytes_after (lent (length out) (writes t)) out → r.number ≡ 0 → take r.length after ≡ t
  written_text t e b =
      by_room (r.number ≡ 0 → take r.length after ≡ t) t e b (λ u q w n. written_is t q w) (λ q w n. absurd (let same = ap (λ (q : Reply). q.number) q in omega arith))
