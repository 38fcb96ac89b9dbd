-- The search for the least top level: it gives the first level that fits, or the refusal at 60 where none does. Assumes nothing.
use Prim.Native.Nat.{ℕ, zero, suc, ◌+◌, ◌<◌, ◌≤◌}
use native.Mathlib.Omega.{arith}
use native.Mathlib.Decide.{ℕ_discrete}
use mathlib.Core.Path.{◌≡◌, refl, ap, ◌∙◌}
use mathlib.Core.List.{List}
use Rattle.model.specs.declared.Header.{Header}
use Rattle.model.specs.declared.Line.{Line}
use Rattle.model.specs.declared.Answer.{Answer}
use Rattle.model.specs.declared.Answer.TheVariants.{Done, Level, Refused}
use Rattle.model.specs.Scales.{with_top}
use Rattle.rows.specs.Rows.{place_of}
use Rattle.model.specs.Files.{File}
use Rattle.model.specs.Machine.{Run, finished, stopped, run}
use Rattle.model.specs.declared.Best.{Best}
use Rattle.model.specs.Plan.{best_machine}
use Rattle.model.specs.Answers.{try_levels, least_level}

module _ (h : Header) (lines : List Line) where
  -- every line has a best reserve at top level l; some line has none
  pub record FitsAt (l : ℕ) : Type 0 where
    pub best : List Best
    pub runs : run (best_machine (with_top h l)) lines ≡ finished best

  pub record StopsAt (l : ℕ) : Type 0 where
    pub line : ℕ
    pub number : ℕ
    pub runs : run (best_machine (with_top h l)) lines ≡ stopped line number

  pub record First (k : ℕ) : Type 0 where
    pub low : 1 ≤ k
    pub high : k ≤ 60
    pub fits : FitsAt k
    pub lower : (j : ℕ) → 1 ≤ j → j < k → StopsAt j

  pub record Never (number place : ℕ) : Type 0 where
    pub line : ℕ
    pub runs : run (best_machine (with_top h 60)) lines ≡ stopped line number
    pub place_is : place ≡ place_of line

  -- what an answer says
  abbrev pub Says : Answer → Type 0
  Says Done = ⊥
  Says (Level k) = First k
  Says (Refused n p) = Never n p

  trying : (left l : ℕ) (last : Answer) → left + l ≡ 61 → 1 ≤ l → ((j : ℕ) → 1 ≤ j → j < l → StopsAt j) → (left ≡ 0 → Says last) → Says (try_levels h lines left l last)
  trying zero l last e o s z = z refl
  trying (suc left) l last e o s z = go (run (best_machine (with_top h l)) lines) refl (λ n p s' z'. trying left (suc l) (Refused n p) (omega arith) (omega arith) s' z')
    where
      go : (r : Run Best ℕ) → run (best_machine (with_top h l)) lines ≡ r
          → ((n p : ℕ) → ((j : ℕ) → 1 ≤ j → j < suc l → StopsAt j) → (left ≡ 0 → Says (Refused n p)) → Says (try_levels h lines left (suc l) (Refused n p)))
          → Says (elim r [ finished best ↦ Level l | stopped i n ↦ try_levels h lines left (suc l) (Refused n (place_of i)) ])
      go (finished best) q f = record { low = o; high = omega arith; fits = record { best = best; runs = q }; lower = s }
      go (stopped i n) q f =
          f n (place_of i) (λ j a b. further j a b (ℕ_discrete j l))
          (λ w. record { line = i; runs = ap (λ (t : ℕ). run (best_machine (with_top h t)) lines) (sixty w) ∙ q; place_is = refl })
        where
          sixty : left ≡ 0 → 60 ≡ l
          sixty w = omega arith

          further : (j : ℕ) → 1 ≤ j → j < suc l → Dec (j ≡ l) → StopsAt j
          further j a b (yes c) = record { line = i; number = n; runs = ap (λ (t : ℕ). run (best_machine (with_top h t)) lines) c ∙ q }
          further j a b (no c) = s j a (omega arith)

pub least_says : (circuit : File) → Says circuit.header circuit.lines (least_level circuit)
least_says circuit = trying circuit.header circuit.lines 60 1 Done refl (omega arith) (λ j a b. absurd (none j a b)) (λ z. absurd (some z))
  where
    none : (j : ℕ) → 1 ≤ j → j < 1 → ⊥
    none j a b = omega arith

    some : ◌≡◌ {A = ℕ} 60 0 → ⊥
    some z = omega arith
