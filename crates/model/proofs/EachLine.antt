-- What a line holds by its word: where every step of a machine gives a value with a property of its line, each line of a file that ran to
-- the end holds such a value. Assumes nothing.
use Prim.Native.Nat.{ℕ}
use mathlib.Core.Path.{◌≡◌, subst}
use mathlib.Core.List.{List, [], ◌∷◌, ◌++◌, append_assoc, append-nil}
use lib.ListN.{length}
use Rattle.model.specs.declared.Line.{Line}
use Rattle.model.specs.Machine.{Step, goes, stops, Run, finished, stopped, Machine, and_then, step, count_in, run_from, run}
use Rattle.model.proofs.Lists.{All2, nil2, snoc2}

module _ {X E : Type 0} where
  -- the value has the property, unless the step stops
  abbrev pub Gives : (X → Type 0) → Step X E → Type 0
  Gives P (goes x) = P x
  Gives P (stops e) = Unit {0}

  pub then_gives : {Y : Type 0} (P : X → Type 0) (s : Step Y E) (f : Y → Step X E) → ((y : Y) → Gives P (f y)) → Gives P (and_then s f)
  then_gives P (goes y) f g = g y
  then_gives P (stops e) f g = tt

  module _ (M : Machine X E) (P : Line → X → Type 0) (each : (x : Line) (ins : ℕ) (held : List X) → Gives (P x) (step M ins held x)) where
    abbrev LinesHold : List Line → Run X E → Type 0
    LinesHold lines (finished held) = All2 P lines held
    LinesHold lines (stopped i e) = Unit {0}

    lines_hold : (xs before : List Line) (ins : ℕ) {held : List X} → All2 P before held → LinesHold (before ++ xs) (run_from M ins held xs)
    lines_hold [] before ins r = rw append-nil r
    lines_hold (x ∷ xs) before ins {held} r = go (step M ins held x) (each x ins held) (λ v p. rw append_assoc at (lines_hold xs (before ++ (x ∷ [])) (count_in x ins) (snoc2 r p)))
      where
        go : (s : Step X E) → Gives (P x) s → ((v : X) → P x v → LinesHold (before ++ (x ∷ xs)) (run_from M (count_in x ins) (held ++ (v ∷ [])) xs))
            → LinesHold (before ++ (x ∷ xs)) (elim s as (λ t. Run X E) [ goes v ↦ run_from M (count_in x ins) (held ++ (v ∷ [])) xs | stops e ↦ stopped (length held) e ])
        go (goes v) p f = f v p
        go (stops e) p f = tt

    pub each_line : (lines : List Line) {held : List X} → run M lines ≡ finished held → All2 P lines held
    each_line lines e = subst (LinesHold lines) e (lines_hold lines [] 0 nil2)
