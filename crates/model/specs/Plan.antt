-- Document 01, "The plan": the best reserve of each circuit line, how operands are brought, and the lines of the plan.
use Rattle.std.specs.Prelude.{ℕ, zero, suc, ◌+◌, ◌-◌, ◌*◌, ◌/◌, min, cond, List, [], ◌∷◌, ◌++◌, eqb, length, get_or, ℤ, pos, ◌+ℤ◌, ◌-ℤ◌}
use Rattle.std.specs.Int.Signed.{le_z, lt_z}
use Rattle.ints.specs.Parts.{positive}
use Rattle.model.specs.declared.Header.{Header}
use Rattle.model.specs.declared.Line.{Line}
use Rattle.model.specs.declared.Choice.{Choice}
use Rattle.model.specs.declared.Best.{Best}
use Rattle.model.specs.declared.Best.TheVariants as Bests
use Rattle.model.specs.declared.Line.TheVariants.{In, Const, Neg, Rot, Add, Mul, Out, Enc, Rs, Ms, Us, Free}
use Rattle.model.specs.Scales.{modulus, reserve, headroom}
use Rattle.model.specs.Machine.{Step, goes, stops, Machine}

-- "m(r) is the smallest whole level with F·m ≥ r + W": r + W over F, rounded up.
abbrev pub lowest_level : Header → ℤ → ℕ
lowest_level h r = (positive (r +ℤ pos h.waterline) + (h.factor - 1)) / h.factor

abbrev pub smaller : ℤ → ℤ → ℤ
smaller r r' = cond (le_z r r') r r'

-- The reserve at scale W.
abbrev pub at_waterline : Header → ℕ → ℤ
at_waterline h l = reserve h h.waterline l

-- "`in`: F·L − W at level L."
abbrev pub input_choice : Header → Choice
input_choice h =
    record { level = h.top; reserve = at_waterline h h.top; first = at_waterline h h.top; second = at_waterline h h.top }

-- "`neg`, `rot`: the operand's r, done at m(r). `add`: the smaller reserve r (with a constant, the ciphertext's), at m(r); the
-- constant is encoded at that scale and level."
abbrev pub unchanged_choice : Header → ℤ → Choice
unchanged_choice h r = record { level = lowest_level h r; reserve = r; first = r; second = r }

-- A product at level m in which the first operand's reserve r is unchanged and the other has scale W: "new reserve r − W".
abbrev pub first_unchanged : Header → ℤ → ℕ → Choice
first_unchanged h r m = record { level = m; reserve = r -ℤ pos h.waterline; first = r; second = at_waterline h m }

-- the same with the operands in the other order
abbrev pub swapped : Choice → Choice
swapped c = record { level = c.level; reserve = c.reserve; first = c.second; second = c.first }

-- "`mul` with a constant: level m(r), constant at scale W, new reserve r − W." The constant is the second operand, or the first.
abbrev pub times_constant_choice : Header → ℤ → Choice
times_constant_choice h r = first_unchanged h r (lowest_level h r)

abbrev pub constant_times_choice : Header → ℤ → Choice
constant_times_choice h r = swapped (times_constant_choice h r)

-- "`mul` of two ciphertexts with m's unequal: at the smaller m; the operand of smaller reserve r keeps it, the other comes to scale
-- W; new reserve r − W."
abbrev pub unequal_choice : Header → ℤ → ℤ → ℕ → Choice
unequal_choice h r r' m = cond (le_z r r') (first_unchanged h r m) (swapped (first_unchanged h r' m))

-- "m's equal: r1 + r2 − F·m at level m,"
abbrev pub same_level_choice : Header → ℤ → ℤ → ℕ → Choice
same_level_choice h r r' m = record { level = m; reserve = r +ℤ r' -ℤ pos (modulus h m); first = r; second = r' }

-- "or F·(m − 1) − 2·W at level m − 1 with both operands at scale W." Here m is at least 1, since r + W is.
abbrev pub level_below_choice : Header → ℕ → Choice
level_below_choice h m =
    let l = m - 1 in
    record { level = l; reserve = pos (modulus h l) -ℤ pos (2 * h.waterline); first = at_waterline h l; second = at_waterline h l }

-- "The greater; if equal, the lower level."
abbrev pub greater_else_lower : Choice → Choice → Choice
greater_else_lower lower higher = cond (lt_z lower.reserve higher.reserve) higher lower

abbrev pub product_choice : Header → ℤ → ℤ → Choice
product_choice h r r' =
    let m = lowest_level h r in
    let m' = lowest_level h r' in
    cond (eqb m m') (greater_else_lower (level_below_choice h m) (same_level_choice h r r' m)) (unequal_choice h r r' (min m m'))

-- "The best reserve may come out below zero; then the circuit is refused at that line."; document 02, Job 3: "a best reserve below H is too
-- few levels"
abbrev pub unless_too_few : Header → Choice → Step Best ℕ
unless_too_few h p = cond (lt_z p.reserve (pos (headroom h))) (stops 6) (goes (Bests.Ciphertext p))

abbrev pub on_best : (Choice → Step Best ℕ) → Best → Step Best ℕ
on_best f Bests.Constant = stops 5
on_best f (Bests.Ciphertext p) = f p

-- both: the choice for two ciphertexts' reserves; left, right: for the reserve of the one ciphertext, in the first or in the second place
abbrev pub on_reserves : Header → (ℤ → ℤ → Choice) → (ℤ → Choice) → (ℤ → Choice) → Best → Best → Step Best ℕ
on_reserves h both left right Bests.Constant Bests.Constant = stops 5
on_reserves h both left right Bests.Constant (Bests.Ciphertext q) = unless_too_few h (right q.reserve)
on_reserves h both left right (Bests.Ciphertext p) Bests.Constant = unless_too_few h (left p.reserve)
on_reserves h both left right (Bests.Ciphertext p) (Bests.Ciphertext q) = unless_too_few h (both p.reserve q.reserve)

-- "Work through the circuit in order." The best reserve of each line, or 6 at the first whose best reserve is too low. The stops
-- with 1, 4 and 5 are for lines that no well-formed circuit has.
abbrev pub best_machine : Header → Machine Best ℕ
best_machine h =
    record {
      absent = 4;
      input = λ k. unless_too_few h (input_choice h);
      constant = λ k. goes Bests.Constant;
      neg = λ x. on_best (λ p. unless_too_few h (unchanged_choice h p.reserve)) x;
      rot = λ x t. on_best (λ p. unless_too_few h (unchanged_choice h p.reserve)) x;
      add = λ x y. on_reserves h (λ r r'. unchanged_choice h (smaller r r')) (unchanged_choice h) (unchanged_choice h) x y;
      mul = λ x y. on_reserves h (product_choice h) (times_constant_choice h) (constant_times_choice h) x y;
      -- "`out` names the value as it is"
      out = λ x. on_best (λ p. goes (Bests.Ciphertext p)) x;
      enc = λ x s e. stops 1;
      rs = λ x c. stops 1;
      ms = λ x c. stops 1;
      us = λ x b. stops 1;
    }

-- The schedule so far, and the number of the value to name next.
pub record Draft : Type 0 where
  pub lines : List Line
  pub number : ℕ

-- One line more; its value is named.
abbrev pub emit : List Line → Line → Draft
emit lines x = record { lines = lines ++ (x ∷ []); number = length lines }

-- "each only if not zero"
abbrev pub unless_zero : (ℕ → ℕ → Line) → ℕ → Draft → Draft
unless_zero word zero d = d
unless_zero word (suc n) d = emit d.lines (word d.number (suc n))

-- "with d = r − r′ and q the smaller of d div F and l − l′"
abbrev pub switches : Header → ℕ → ℕ → ℕ
switches h d levels = min (d / h.factor) levels

-- "write `ms` q, then `us` d − q·F, then `rs` l − l′ − q"
abbrev pub convert : Header → ℕ → ℕ → ℕ → Draft → Draft
convert h d levels q draft = unless_zero Rs (levels - q) (unless_zero Us (d - q * h.factor) (unless_zero Ms q draft))

-- "Bringing a value from (r, l) to (r′, l′)". In a plan r′ ≤ r and l′ ≤ l; otherwise the differences would be cut off at 0.
abbrev pub bring : Header → ℤ → ℕ → ℤ → ℕ → Draft → Draft
bring h r l r' l' draft =
    convert h (positive (r -ℤ r')) (l - l') (switches h (positive (r -ℤ r')) (l - l')) draft

-- The scale that leaves reserve r at level l.
abbrev pub scale_for : Header → ℤ → ℕ → ℕ
scale_for h r l = positive (pos (modulus h l) -ℤ r)

-- An operand, brought to reserve r at level l; "each use gets its own `enc`".
abbrev pub supply : Header → Best → ℤ → ℕ → Draft → Draft
supply h Bests.Constant r l draft = emit draft.lines (Enc draft.number (scale_for h r l) l)
supply h (Bests.Ciphertext p) r l draft = bring h p.reserve p.level r l draft

-- How a line is done, where it is a ciphertext.
abbrev pub choice_of : Best → Choice
choice_of Bests.Constant = record { level = 0; reserve = pos 0; first = pos 0; second = pos 0 }
choice_of (Bests.Ciphertext p) = p

-- best: of each circuit line; names: for each circuit line so far its value number in the schedule
module _ (h : Header) (best : List Best) (names : List ℕ) where
  -- operand a at the line's level and reserve r
  abbrev pub operand_to : Choice → ℤ → ℕ → List Line → Draft
  operand_to p r a lines =
      supply h (get_or best a Bests.Constant) r p.level (record { lines = lines; number = get_or names a 0 })

  abbrev pub plan_one : Choice → (ℕ → Line) → ℕ → List Line → Draft
  plan_one p word a lines =
      let d = operand_to p p.first a lines in
      emit d.lines (word d.number)

  -- "First operand's lines, second's, then the line itself."
  abbrev pub plan_two : Choice → (ℕ → ℕ → Line) → ℕ → ℕ → List Line → Draft
  plan_two p word a b lines =
      let d = operand_to p p.first a lines in
      let e = operand_to p p.second b d.lines in
      emit e.lines (word d.number e.number)

  -- the lines for circuit line x, done as p says. "A `const` line is copied"; "`out` names the value as it is, no line added".
  abbrev pub plan_line : Choice → Line → List Line → Draft
  plan_line p In lines = emit lines In
  plan_line p (Const k) lines = emit lines (Const k)
  plan_line p (Neg a) lines = plan_one p Neg a lines
  plan_line p (Rot a t) lines = plan_one p (λ i. Rot i t) a lines
  plan_line p (Add a b) lines = plan_two p Add a b lines
  plan_line p (Mul a b) lines = plan_two p Mul a b lines
  plan_line p (Out a) lines = emit lines (Out (get_or names a 0))
  plan_line p (Enc a s e) lines = emit lines (Enc a s e)
  plan_line p (Rs a c) lines = emit lines (Rs a c)
  plan_line p (Ms a c) lines = emit lines (Ms a c)
  plan_line p (Us a b) lines = emit lines (Us a b)
  plan_line p Free lines = emit lines Free

-- the circuit lines xs, after those that have the names
abbrev pub plan_from : Header → List Best → List ℕ → List Line → List Line → List Line
plan_from h best names lines [] = lines
plan_from h best names lines (x ∷ xs) =
    let d = plan_line h best names (choice_of (get_or best (length names) Bests.Constant)) x lines in
    plan_from h best (names ++ (d.number ∷ [])) d.lines xs

-- The plan of a circuit whose lines are done as `best` says.
abbrev pub plan_lines : Header → List Best → List Line → List Line
plan_lines h best circuit = plan_from h best [] [] circuit
