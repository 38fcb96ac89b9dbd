-- Where every line keeps the rules, the operand of each `ds` has a scale below W + F. Assumes nothing.
use Prim.Native.Nat.{ℕ, zero, suc, ◌+◌, ◌<◌}
use native.Mathlib.Omega.{arith}
use mathlib.Core.Path.{◌≡◌, refl, sym, ap, ◌∙◌}
use mathlib.Core.Bool.{Bool, true, false, cond}
use mathlib.Core.List.{List, [], ◌∷◌, ◌++◌}
use mathlib.Core.Option.{Option, none, some}
use lib.Dec.{T, ltb, ltb→lt, eqb→eq}
use lib.ListN.{length, get_or, get_elem?}
use lib.Seq.{get_or-take}
use Rattle.std.specs.Prelude.{Result, Ok}
use Rattle.model.specs.declared.Refusal.{Refusal}
use Rattle.model.specs.Refusals.{verdict_answer}
use Rattle.model.specs.declared.Answer.TheVariants.{Done, Refused}
use Rattle.model.specs.declared.Found.{Found}
use Rattle.model.specs.declared.Found.TheVariants as Founds
use Rattle.model.specs.declared.Grammar.TheVariants.{Schedule}
use Rattle.model.specs.declared.Header.{Header}
use Rattle.model.specs.declared.Line.{Line}
use Rattle.model.specs.declared.Line.TheVariants.{In, Const, Neg, Rot, Add, Mul, Out, Enc, Rs, Ms, Us, Free}
use Rattle.rows.specs.Rows.{place_of}
use Rattle.model.specs.Machine.{Step, goes, stops, Run, finished, stopped, and_then, step, count_in, run_from, run}
use Rattle.model.specs.Answers.{on_ciphertext}
use Rattle.model.proofs.Lists.{found_is}
use Rattle.model.proofs.Runs.{or_absent, stops_goes, stopped_finished, kept_on}
use Rattle.text.specs.Tables.{TableFormed}
use Rattle.listings.specs.Held.{is_downscale, named, counted_table, downscaled, held_machine, held_answer, scale_of, found_scales}
use Rattle.tables.specs.declared.Record.{Record}
use Rattle.tables.specs.Records.{lines_of, lines_held, held}
use Rattle.rules.specs.Scales.{ScalesLeft, DownscalesBelow}
use Rattle.rules.proofs.Counted.{lines_long, named_below}

-- a `ds` as the table holds it
pub downscale_is : (x : Line) → T (is_downscale x) → x ≡ Rs (named x) 0
downscale_is In t = absurd t
downscale_is (Const k) t = absurd t
downscale_is (Neg a) t = absurd t
downscale_is (Rot a k) t = absurd t
downscale_is (Add a b) t = absurd t
downscale_is (Mul a b) t = absurd t
downscale_is (Out a) t = absurd t
downscale_is (Enc a s l) t = absurd t
downscale_is (Rs a c) t = ap (Rs a) (eqb→eq c 0 t)
downscale_is (Ms a c) t = absurd t
downscale_is (Us a b) t = absurd t
downscale_is Free t = absurd t

module _ (h : Header) where
  abbrev raised : ℕ
  raised = h.waterline + h.factor

  -- what the operand of a `ds` that goes on was found to be
  record OperandBelow (found : List Found) (a : ℕ) : Type 0 where
    value : Found
    there : get_elem? found a ≡ some value
    below : scale_of value < raised

  scale_below : (s l : ℕ) (v : Found) → downscaled h s l ≡ goes v → s < raised
  scale_below s l v e = go (ltb s raised) _ e (ltb→lt s raised)
    where
      go : (b : Bool) (r : Step Found ℕ) → cond b r (stops 14) ≡ goes v → (T b → s < raised) → s < raised
      go true r p k = k tt
      go false r p k = stops_goes p

  operand_below : (found : List Found) (a : ℕ) (v : Found) → step (held_machine h) 0 found (Rs a 0) ≡ goes v → OperandBelow found a
  operand_below found a v e = at (get_elem? found a) refl e
    where
      on : (w : Found) → get_elem? found a ≡ some w → on_ciphertext (downscaled h) w ≡ goes v → OperandBelow found a
      on Founds.Bare q p = stops_goes p
      on (Founds.Encoded s l) q p = stops_goes p
      on (Founds.Ciphertext s l) q p = record { value = Founds.Ciphertext s l; there = q; below = scale_below s l v p }

      at : (o : Option Found) → get_elem? found a ≡ o → and_then (or_absent 4 o) (on_ciphertext (downscaled h)) ≡ goes v → OperandBelow found a
      at none q p = stops_goes p
      at (some w) q p = on w q p

  below_from :
      (xs : List Line) (ins : ℕ) (found final : List Found) → run_from (held_machine h) ins found xs ≡ finished final → (i : ℕ) → i < length xs →
      T (is_downscale (get_or xs i Free)) → scale_of (get_or final (named (get_or xs i Free)) Founds.Bare) < raised
  below_from [] ins found final e i l t = absurd (omega arith)
  below_from (x ∷ xs) ins found final e zero l t = at (step (held_machine h) ins found x) refl e
    where
      at :
          (s : Step Found ℕ) → step (held_machine h) ins found x ≡ s →
          ◌≡◌ {A = Run Found ℕ}
          (elim s [ goes v ↦ run_from (held_machine h) (count_in x ins) (found ++ (v ∷ [])) xs | stops n ↦ stopped (length found) n ]) (finished final) →
          scale_of (get_or final (named x) Founds.Bare) < raised
      at (stops n) q p = stopped_finished p
      at (goes v) q p =
          let o = operand_below found (named x) v (ap (step (held_machine h) ins found) (sym (downscale_is x t)) ∙ q) in
          rw (found_is final (named x) Founds.Bare (kept_on (held_machine h) (x ∷ xs) ins found e (named x) o.there)) o.below
  below_from (x ∷ xs) ins found final e (suc i) l t =
      at (step (held_machine h) ins found x) e (λ v p. below_from xs (count_in x ins) (found ++ (v ∷ [])) final p i (omega arith) t)
    where
      at :
          (s : Step Found ℕ) →
          ◌≡◌ {A = Run Found ℕ}
          (elim s [ goes v ↦ run_from (held_machine h) (count_in x ins) (found ++ (v ∷ [])) xs | stops n ↦ stopped (length found) n ]) (finished final) →
          ((v : Found) → run_from (held_machine h) (count_in x ins) (found ++ (v ∷ [])) xs ≡ finished final →
          scale_of (get_or final (named (get_or xs i Free)) Founds.Bare) < raised) →
          scale_of (get_or final (named (get_or xs i Free)) Founds.Bare) < raised
      at (stops n) p more = stopped_finished p
      at (goes v) p more = more v p

  -- of a listing that keeps the rules
  pub found_below :
      (lines : List Line) → Done ≡ held_answer h lines → (i : ℕ) → i < length lines → T (is_downscale (get_or lines i Free)) →
      found_scales h lines (named (get_or lines i Free)) < raised
  found_below lines e i l t = at (run (held_machine h) lines) refl e
    where
      at :
          (r : Run Found ℕ) → run (held_machine h) lines ≡ r →
          Done ≡ (elim r [ finished found ↦ Done | stopped j n ↦ Refused n (place_of j) ]) →
          (elim r [ finished found ↦ scale_of (get_or found (named (get_or lines i Free)) Founds.Bare) | stopped j n ↦ 0 ]) < raised
      at (finished found) q p = below_from lines 0 [] found q i l t
      at (stopped j n) q p = absurd (let z : ◌≡◌ {A = ℕ} 0 1 = cc in omega arith)

-- and with the scales that are left behind
module _ (h : Header) (records : List Record) (count : ℕ) (formed : TableFormed Schedule (counted_table (held h records count))) where
  abbrev lines : List Line
  lines = lines_held records count

  -- what a line names is there
  pub named_there : (i : ℕ) → i < length lines → named (get_or lines i Free) < length lines
  named_there i l =
      let inside : i < count = omega (arith, lines_long h records count formed) in
      let below = named_below h records count formed i inside (suc i) (omega arith) (omega arith) 0 in
      rw (get_or-take count (lines_of records) i Free inside) (omega (arith, below, lines_long h records count formed))

  pub left_below : (scales : List ℕ) → Done ≡ held_answer h lines → ScalesLeft h lines scales → DownscalesBelow h lines scales
  left_below scales told left =
      record {
        below = λ i l t.
            let a = named (get_or lines i Free) in
            rw (left.found a (named_there i l)) (found_below h lines told i l t);
      }

  -- where the answer is that every line keeps the rules
  pub done_below :
      (r : Result Unit Refusal) (u : Unit {0}) (scales : List ℕ) → verdict_answer r ≡ held_answer h lines → r ≡ Ok u → ScalesLeft h lines scales →
      DownscalesBelow h lines scales
  done_below r u scales told is left = left_below scales (sym (ap verdict_answer is) ∙ told) left
