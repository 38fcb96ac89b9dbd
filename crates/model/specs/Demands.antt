-- The demands' own terms: when there is a schedule at all, and what "exact" means; and between them those of document 02, Job 6: the reserve
-- that a line has, and the greatest. Words marked "Demand" are the user's demands', the others document 01's where no other is named.
use Rattle.std.specs.Prelude.{ℕ, ◌-◌, ◌/◌, ◌^◌, ◌<◌, ◌≡◌, Bool, true, not, ◌&&◌, ◌||◌, List, [], ◌∷◌, T, ltb, length, get_or, ℤ, nat_abs, ◌≤ℤ◌, Some}
use Rattle.std.proofs.Math.Option.{some}
use Rattle.std.proofs.Math.ListN.{get_elem?}
use Rattle.model.specs.declared.Header.{Header}
use Rattle.model.specs.declared.Line.{Line}
use Rattle.model.specs.declared.Line.TheVariants.{Free}
use Rattle.model.specs.declared.Grammar.TheVariants.{Schedule}
use Rattle.model.specs.declared.Choice.{Choice}
use Rattle.model.specs.declared.Best.{Best}
use Rattle.model.specs.declared.Best.TheVariants as Bests
use Rattle.model.specs.Scales.{modulus, reserve}
use Rattle.model.specs.Files.{well_formed, kind_of, is_constant, is_encoded}
use Rattle.model.specs.Machine.{finished, run}
use Rattle.model.specs.Rules.{KeepsRules, Bounds}
use Rattle.model.specs.Machines.{Vector, Handed, Holding, scaled, plain_machine, scale_machine, times_two_to}
use Rattle.model.specs.Plan.{best_machine}
use Rattle.model.specs.Services.{erase, kept_lines}

-- Demand 3: "no schedule of whatever length, however cleverly its scale operations are placed, keeps the rules of 2 and erases to that
-- circuit at that rescale factor, waterline and top level". Document 01: "a schedule may have any number of lines and operand numbers of
-- any length; all else about a schedule stays, its header numbers being the circuit's". The numbers of a `Line`
-- have no width here. Document 02, Job 3: "Whether any schedule exists is judged with H."
pub record Schedulable (h : Header) (circuit : List Line) : Type 0 where
  pub schedule : List Line
  pub formed : T (well_formed Schedule h schedule)
  pub keeps : KeepsRules h schedule
  pub erases : erase schedule ≡ circuit

-- ---- Document 02, Job 6: "for each ciphertext line of a planned circuit the plan's reserve is the greatest that the line has in any legal
-- schedule of that circuit, at the same header"
-- "each ciphertext line": neither a constant nor an encoded one, so that `out` is among them, though no line may name it and its kind is
-- `Nothing`. Of `Free`, which stands in no file, this says true as well.
abbrev pub is_ciphertext_line : Line → Bool
is_ciphertext_line x = not (is_constant (kind_of x) || is_encoded (kind_of x))

-- the reserve "that the line has" in a schedule that keeps the rules: line j of the circuit is the schedule's j-th kept line, and all scales
-- and levels that keep the rules give it this reserve
pub record HasReserve (h : Header) (schedule : List Line) (j : ℕ) (bits : ℤ) : Type 0 where
  pub legal : KeepsRules h schedule
  pub line : ℕ
  pub kept : get_elem? (kept_lines schedule) j ≡ some line
  pub reserve_is : (keeps : KeepsRules h schedule) → reserve h (keeps.scale line) (keeps.level line) ≡ bits

-- that reserve is no more than this
pub record HasAtMost (h : Header) (schedule : List Line) (j : ℕ) (most : ℤ) : Type 0 where
  pub bits : ℤ
  pub has : HasReserve h schedule j bits
  pub at_most : bits ≤ℤ most

-- "the greatest" at line j is document 01's best reserve, by its formulas: this schedule has it there, and no "legal schedule of that
-- circuit", of whatever length, has more
pub record BestAt (h : Header) (circuit schedule : List Line) (j : ℕ) : Type 0 where
  pub best : List Best
  pub choice : Choice
  pub runs : run (best_machine h) circuit ≡ finished best
  pub best_is : get_elem? best j ≡ some (Bests.Ciphertext choice)
  pub has : HasReserve h schedule j choice.reserve
  pub none_more : (other : Schedulable h circuit) → HasAtMost h other.schedule j choice.reserve

-- Document 02, Job 3: numbers "in absolute value below" this
abbrev pub all_below : ℕ → Vector → Bool
all_below bound [] = true
all_below bound (x ∷ v) = ltb (nat_abs x) bound && all_below bound v

-- Document 02, Job 3: "circuit numbers … in absolute value below two to the power (H − 1)"
abbrev pub are_small : ℕ → Vector → Bool
are_small bits v = all_below (2 ^ (bits - 1)) v

-- Document 02, Job 3: "numbers in absolute value below half its modulus, the modulus being two to F·level"
abbrev pub below_half : Header → ℕ → Vector → Bool
below_half h level v = all_below (2 ^ modulus h level / 2) v

-- Demand 3: "each circuit line but a bare constant then holds exactly the circuit's own numbers, as document 01's plain machine gives them,
-- times two to its scale". Line j of the circuit is the j-th kept line of the schedule.
pub record ExactLine (n : ℕ) (h : Header) (schedule : List Line) (held : List Holding) (own : List Vector) (j : ℕ) : Type 0 where
  pub line : ℕ
  pub scale : ℕ
  pub level : ℕ
  pub vector : Vector
  pub kept : get_elem? (kept_lines schedule) j ≡ some line
  pub long : length vector ≡ n
  pub plain : get_elem? own j ≡ some vector
  pub exact : get_elem? held line ≡ some (scaled scale level (times_two_to scale vector))
  -- Document 02, Job 3: "where H is given, a circuit line other than a bare constant whose circuit numbers are" small "holds in the scale
  -- machine only numbers" below half
  pub below_half_modulus : (bits : ℕ) → h.headroom ≡ Some bits → T (are_small bits vector) → T (below_half h level (times_two_to scale vector))

-- Demand 3: "whatever whole numbers its inputs and constants are, the scale machine runs all its lines with no mismatch and no scale above
-- the modulus or below the waterline; each circuit line but a bare constant then holds exactly the circuit's own numbers".
pub record Exact (handed : Handed) (h : Header) (circuit schedule : List Line) : Type 0 where
  pub held : List Holding
  pub own : List Vector
  pub runs : run (scale_machine handed h) schedule ≡ finished held
  pub all_lines : length held ≡ length schedule
  pub plain_runs : run (plain_machine handed) circuit ≡ finished own
  pub in_bounds : (i s l : ℕ) (v : Vector) → get_elem? held i ≡ some (scaled s l v) → Bounds h s l
  pub lines : (j : ℕ) → j < length circuit → T (not (is_constant (kind_of (get_or circuit j Free))))
      → ExactLine handed.slots h schedule held own j
