-- What the least level's service replies is what is promised: the least level at which a schedule exists, or 6 exactly where there is none at 60.
-- Assumes nothing.
use Prim.Native.Nat.{ℕ}
use native.Mathlib.Omega.{arith}
use mathlib.Core.Path.{◌≡◌, refl, sym, ap, ◌∙◌, subst}
use mathlib.Core.Logic.{◌↔◌}
use mathlib.Core.Bool.{Bool, cond}
use borrow.Author.Tests.{ne_eqb}
use Rattle.fields.specs.Pieces.{Bytes}
use Rattle.model.specs.declared.Answer.{Answer}
use Rattle.model.specs.declared.Answer.TheVariants.{Done, Level, Refused}
use Rattle.model.specs.Files.{File}
use Rattle.model.specs.Answers.{least_level}
use Rattle.model.specs.Answers.{answer_file}
use Rattle.model.proofs.Statements.LeastLevel.{IsLeastLevel}
use Rattle.model.proofs.Theorems as Model
use Rattle.model.proofs.Statements.LeastLevel as LeastLevel
use Rattle.rows.specs.Rows.{Reading, read, refused}
use Rattle.text.specs.Files.{read_text, circuit_context}
use Rattle.text.proofs.FileLaws.{FileBack, file_read_written}
use Rattle.services.specs.declared.Reply.{Reply}
use Rattle.services.specs.Outcomes.{Outcome, tells, refuses, reply_of}
use Rattle.services.specs.Calls.{answered, once_read, least_outcome}
use Rattle.services.specs.Promises as Promises
use Rattle.services.specs.Promises.{OnceRead, Fits, Least, NoneFits, LeastComesTo, LeastPromise}
use Rattle.services.proofs.Planning.{too_few_at, formed_at, fits_above, planned_from}
use Rattle.services.proofs.Texts.{not_both, one_file, is_unread, text_inverse}
use Rattle.services.proofs.OneOutcome.{one_level}

-- the file that is named: the circuit
circuit_named : (p : ℕ) → (p ≡ 0 → ⊥) → answer_file 1 (Refused 6 p) ≡ 1
circuit_named p f = ap (λ (b : Bool). cond b 0 1) (ne_eqb p 0 f)

-- ---- what the service comes to
data LeastCase (circuit : Bytes) : Outcome → Type 0 where
  unread : (n p : ℕ) → read_text circuit_context circuit ≡ refused n p → LeastCase circuit (refuses n 1 p)
  found : (f : File) (l : ℕ) → read_text circuit_context circuit ≡ read f → least_level f ≡ Level l → LeastCase circuit (tells l)
  few : (f : File) (p : ℕ) → read_text circuit_context circuit ≡ read f → least_level f ≡ Refused 6 p → LeastCase circuit (refuses 6 (answer_file 1 (Refused 6 p)) p)

module _ (circuit : Bytes) where
  abbrev Reads : File → Type 0
  Reads f = read_text circuit_context circuit ≡ read f

  back : {f : File} → Reads f → FileBack circuit_context circuit f
  back e = file_read_written circuit_context circuit e

  right : {f : File} → Reads f → LeastLevel.IsRight f
  right {f} e = Model.least_level_lem f (back e).formed

  least_case : LeastCase circuit (least_outcome circuit)
  least_case = go (read_text circuit_context circuit) refl
    where
      on_file : (f : File) → Reads f → (a : Answer) → least_level f ≡ a → LeastCase circuit (answered 1 a)
      on_file f e Done q = absurd ((right e).replies q)
      on_file f e (Level l) q = found f l e q
      on_file f e (Refused n p) q =
          let six = ((right e).too_few n p q).six in
          subst (λ (m : ℕ). LeastCase circuit (answered 1 (Refused m p))) (sym six) (few f p e (q ∙ ap (λ (m : ℕ). Refused m p) six))

      go : (x : Reading File) → read_text circuit_context circuit ≡ x → LeastCase circuit (once_read 1 x (λ f. answered 1 (least_level f)))
      go (refused n p) e = unread n p e
      go (read f) e = on_file f e (least_level f) refl

  none_at_sixty : {f : File} (p : ℕ) → Reads f → least_level f ≡ Refused 6 p → Fits f 60 → ⊥
  none_at_sixty {f} p e q S = ((right e).too_few 6 p q).no_schedule S

  is_least : {f : File} {l : ℕ} → Reads f → IsLeastLevel f.header f.lines l → Least f l
  is_least {f} {l} e i = record { low = i.low; high = i.high; planned = planned_from circuit e l i.low i.high i.fits; least = i.least }

  none_fits : {f : File} (p : ℕ) → Reads f → least_level f ≡ Refused 6 p → NoneFits f p
  none_fits {f} p e q =
      record {
        none_fits = λ k low high S. none_at_sixty p e q (fits_above circuit e k low S 60 high (omega arith));
        at_sixty = too_few_at (LeastLevel.at_sixty_lem f) p (formed_at circuit e 60 (omega arith) (omega arith)) ((right e).too_few 6 p q).as_planned;
      }

  abbrev Comes : Outcome → Type 0
  Comes = OnceRead (read_text circuit_context circuit) 1 LeastComesTo

  comes_to : {o : Outcome} → LeastCase circuit o → Comes o
  comes_to (unread n p e) = Promises.unread n p (is_unread circuit_context circuit n p e)
  comes_to (found f l e q) = Promises.is_read f _ e (Promises.fits_from l (is_least e ((right e).level l q)))
  comes_to (few f p e q) =
      let is = none_fits p e q in
      subst (λ (n : ℕ). Comes (refuses 6 n p)) (sym (circuit_named p (λ z. omega (arith, is.at_sixty.place_is)))) (Promises.is_read f _ e (Promises.too_few p is))

  least_comes_to : Comes (least_outcome circuit)
  least_comes_to = comes_to least_case

  -- 6 exactly where there is no schedule at 60
  exactly : (r : Reply) {o : Outcome} → LeastCase circuit o → r ≡ reply_of o → (f : File) → Reads f → (r.number ≡ 6) ↔ (Fits f 60 → ⊥)
  exactly r (unread n p e) a f i = not_both i e
  exactly r (few k p e q) a f i =
      (λ six S. none_at_sixty p e q (subst (λ (x : File). Fits x 60) (one_file i e) S), λ n. ap (λ (q : Reply). q.number) a)
  exactly r (found k l e q) a f i =
      let is = (right e).level l q in (
        λ six. absurd (let same = ap (λ (q : Reply). q.number) a in omega arith),
        λ n. absurd (n (subst (λ (x : File). Fits x 60) (one_file e i) (fits_above circuit e l is.low is.fits 60 is.high (omega arith)))),
      )

pub least_promise : (circuit : Bytes) (r : Reply) → r ≡ reply_of (least_outcome circuit) → LeastPromise circuit r
least_promise circuit r e =
    record {
      inverse = text_inverse circuit_context (omega arith) circuit;
      call =
          record {
            outcome = least_outcome circuit;
            comes_to = least_comes_to circuit;
            only = λ other c. one_level circuit other _ c (least_comes_to circuit);
          };
      reply = e;
      too_few_iff = exactly circuit r (least_case circuit) e;
    }
