-- A schedule that is being written: as long as each line that is added passes the check and is well formed, the whole does, and it erases to
-- the circuit lines that were added. Assumes nothing.
use Prim.Native.Nat.{ℕ, suc, ◌+◌, ◌≤◌}
use native.Mathlib.Omega.{arith}
use mathlib.Core.Path.{◌≡◌, refl, sym, ap, ◌∙◌}
use mathlib.Core.List.{List, [], ◌∷◌, ◌++◌}
use mathlib.Core.Option.{some}
use lib.Dec.{T}
use lib.ListN.{length, get_elem?}
use Rattle.model.specs.declared.Header.{Header}
use Rattle.model.specs.declared.Line.{Line}
use Rattle.model.specs.declared.Line.TheVariants.{Free}
use Rattle.model.specs.declared.Grammar.TheVariants.{Schedule}
use Rattle.model.specs.declared.Kind.{Kind}
use Rattle.model.specs.Files.{kind_of, kind_at, line_formed, lines_formed}
use Rattle.model.specs.Machine.{goes, Run, finished, stopped, held_by, step, run}
use Rattle.model.specs.Services.{kept, made_from, fate_of, renumbered, erase, kept_lines}
use Rattle.model.proofs.Statements.Erasing.{origins}
use Rattle.model.specs.declared.Found.{Found}
use Rattle.model.specs.Answers.{check_machine}
use Rattle.model.proofs.Lists.{length_snoc, found_after, found_last, found_is}
use Rattle.model.proofs.Runs.{or_absent, run_snoc}
use Rattle.model.proofs.Appended.{erase_kept, origins_kept, lines_kept, erase_struck, origins_struck, lines_struck, formed_snoc}

module _ (h : Header) where
  -- what the check finds of the lines, where it passes them
  abbrev pub found_in : List Line → List Found
  found_in lines = elim (run (check_machine h) lines) [ finished found ↦ found | stopped i n ↦ [] ]

  -- The lines pass the check and are well formed, and erase to the circuit, whose lines have these value numbers.
  pub record Sound (lines circuit : List Line) (numbers : List ℕ) : Type 0 where
    pub checks : run (check_machine h) lines ≡ finished (found_in lines)
    pub formed : T (lines_formed Schedule h [] lines)
    pub erases : erase lines ≡ circuit
    pub kept_are : kept_lines lines ≡ numbers
    pub long : length (found_in lines) ≡ length lines
    pub traced : length (origins lines) ≡ length lines

  -- Value i is there, of that kind, with what the check finds of it, and comes from circuit line o.
  pub record Stands (lines : List Line) (i : ℕ) (f : Found) (k : Kind) (o : ℕ) : Type 0 where
    pub found : get_elem? (found_in lines) i ≡ some f
    pub line : Line
    pub there : get_elem? lines i ≡ some line
    pub kind : kind_of line ≡ k
    pub origin : get_elem? (origins lines) i ≡ some o

  pub kind_at_lem : {lines : List Line} {i : ℕ} {f : Found} {k : Kind} {o : ℕ} → Stands lines i f k o → kind_at lines i ≡ k
  kind_at_lem {lines} {i} s = ap kind_of (found_is lines i Free s.there) ∙ s.kind

  -- what the check reads at an held_by
  pub reads : {lines : List Line} {i : ℕ} {f : Found} {k : Kind} {o : ℕ} → Stands lines i f k o → held_by (check_machine h) (found_in lines) i ≡ goes f
  reads s = ap (or_absent 4) s.found

  -- After at most n lines more: the draft is sound, value i stands, and what stood before stands still.
  pub record Grown (n : ℕ) (before lines circuit : List Line) (numbers : List ℕ) (i : ℕ) (f : Found) (k : Kind) (o : ℕ) : Type 0 where
    pub few : length lines ≤ n + length before
    pub sound : Sound lines circuit numbers
    pub stands : Stands lines i f k o
    pub still : (j : ℕ) (g : Found) (m : Kind) (p : ℕ) → Stands before j g m p → Stands lines j g m p

  module _ (lines : List Line) (x : Line) (f : Found) (e : run (check_machine h) lines ≡ finished (found_in lines))
      (goes_on : (n : ℕ) → step (check_machine h) n (found_in lines) x ≡ goes f) where
    snoc_runs : run (check_machine h) (lines ++ (x ∷ [])) ≡ finished (found_in lines ++ (f ∷ []))
    snoc_runs = run_snoc (check_machine h) lines x e goes_on

    snoc_found : found_in (lines ++ (x ∷ [])) ≡ found_in lines ++ (f ∷ [])
    snoc_found = ap (λ (r : Run Found ℕ). elim r as (λ q. List Found) [ finished found ↦ found | stopped i n ↦ [] ]) snoc_runs

    still_there : (o' : ℕ) → origins (lines ++ (x ∷ [])) ≡ origins lines ++ (o' ∷ []) → (j : ℕ) (g : Found) (m : Kind) (p : ℕ) → Stands lines j g m p
        → Stands (lines ++ (x ∷ [])) j g m p
    still_there o' q j g m p s =
        record {
          found = ap (λ (l : List Found). get_elem? l j) snoc_found ∙ found_after (found_in lines) (f ∷ []) j s.found;
          line = s.line;
          there = found_after lines (x ∷ []) j s.there;
          kind = s.kind;
          origin = ap (λ (l : List ℕ). get_elem? l j) q ∙ found_after (origins lines) (o' ∷ []) j s.origin;
        }

    new_stands : (o : ℕ) → length (found_in lines) ≡ length lines → length (origins lines) ≡ length lines → origins (lines ++ (x ∷ [])) ≡ origins lines ++ (o ∷ [])
        → Stands (lines ++ (x ∷ [])) (length lines) f (kind_of x) o
    new_stands o l t q =
        record {
          found = ap (λ (s : List Found). get_elem? s (length lines)) snoc_found ∙ ap (get_elem? (found_in lines ++ (f ∷ []))) (sym l) ∙ found_last (found_in lines) f;
          line = x;
          there = found_last lines x;
          kind = refl;
          origin = ap (λ (s : List ℕ). get_elem? s (length lines)) q ∙ ap (get_elem? (origins lines ++ (o ∷ []))) (sym t) ∙ found_last (origins lines) o;
        }

    grown : (c : List Line) (numbers : List ℕ) (o : ℕ) → T (lines_formed Schedule h [] lines) → T (line_formed Schedule h lines x) → length (found_in lines) ≡ length lines
        → length (origins lines) ≡ length lines
        → erase (lines ++ (x ∷ [])) ≡ c → kept_lines (lines ++ (x ∷ [])) ≡ numbers → origins (lines ++ (x ∷ [])) ≡ origins lines ++ (o ∷ [])
        → Grown 1 lines (lines ++ (x ∷ [])) c numbers (length lines) f (kind_of x) o
    grown c numbers o p q l t er ke ori =
        record {
          few = omega (arith, length_snoc lines x);
          sound =
              record {
                checks = snoc_runs ∙ ap finished (sym snoc_found);
                formed = formed_snoc Schedule h lines x p q;
                erases = er;
                kept_are = ke;
                long = ap length snoc_found ∙ length_snoc (found_in lines) f ∙ ap suc l ∙ sym (length_snoc lines x);
                traced = ap length ori ∙ length_snoc (origins lines) o ∙ ap suc t ∙ sym (length_snoc lines x);
              };
          stands = new_stands o l t ori;
          still = still_there o ori;
        }

  -- a line that stays: one line more of the circuit
  pub emit_kept : {lines circuit : List Line} {numbers : List ℕ} (x y : Line) (f : Found) → Sound lines circuit numbers → fate_of x ≡ kept
      → ((n : ℕ) → step (check_machine h) n (found_in lines) x ≡ goes f)
      → T (line_formed Schedule h lines x) → renumbered (origins lines) (length (erase lines)) x ≡ y
      → Grown 1 lines (lines ++ (x ∷ [])) (circuit ++ (y ∷ [])) (numbers ++ (length lines ∷ [])) (length lines) f (kind_of x) (length circuit)
  emit_kept {lines} {circuit} {numbers} x y f s e g w r =
      grown lines x f s.checks g (circuit ++ (y ∷ [])) (numbers ++ (length lines ∷ [])) (length circuit) s.formed w s.long s.traced
      (erase_kept lines x e ∙ (λ i. s.erases i ++ (r i ∷ []))) (lines_kept lines x e ∙ ap (λ (l : List ℕ). l ++ (length lines ∷ [])) s.kept_are)
      (origins_kept lines x e ∙ ap (λ (l : List Line). origins lines ++ (length l ∷ [])) s.erases)

  -- a line that is struck: it comes from where its held_by comes from
  pub emit_struck : {lines circuit : List Line} {numbers : List ℕ} {a : ℕ} {g : Found} {k : Kind} {o : ℕ} (x : Line) (f : Found) → Sound lines circuit numbers
      → Stands lines a g k o → fate_of x ≡ made_from a
      → ((n : ℕ) → step (check_machine h) n (found_in lines) x ≡ goes f) → T (line_formed Schedule h lines x)
      → Grown 1 lines (lines ++ (x ∷ [])) circuit numbers (length lines) f (kind_of x) o
  emit_struck {lines} {circuit} {numbers} {a} {o} x f s t e g w =
      grown lines x f s.checks g circuit numbers o s.formed w s.long s.traced
      (erase_struck lines x a e ∙ s.erases) (lines_struck lines x a e ∙ s.kept_are)
      (origins_struck lines x a e ∙ ap (λ (p : ℕ). origins lines ++ (p ∷ [])) (found_is (origins lines) a (length (erase lines)) t.origin))

  -- one growth after another
  pub then : {n n' : ℕ} {before lines after c d : List Line} {ns ms : List ℕ} {i j : ℕ} {f g : Found} {k m : Kind} {o p : ℕ}
      → Grown n before lines c ns i f k o → Grown n' lines after d ms j g m p → Grown (n + n') before after d ms j g m p
  then a b = record { few = omega (arith, a.few, b.few); sound = b.sound; stands = b.stands; still = λ q v w u s. b.still q v w u (a.still q v w u s) }

  -- nothing added
  pub none : {lines c : List Line} {ns : List ℕ} {i : ℕ} {f : Found} {k : Kind} {o : ℕ} (n : ℕ) → Sound lines c ns → Stands lines i f k o → Grown n lines lines c ns i f k o
  none n s t = record { few = omega arith; sound = s; stands = t; still = λ q v w u x. x }

  -- a greater count
  pub at_most : {n : ℕ} {before lines c : List Line} {ns : List ℕ} {i : ℕ} {f : Found} {k : Kind} {o : ℕ} (m : ℕ) → n ≤ m → Grown n before lines c ns i f k o
      → Grown m before lines c ns i f k o
  at_most m u g = record { few = omega (arith, g.few); sound = g.sound; stands = g.stands; still = g.still }

  -- the empty schedule
  pub nothing : Sound [] [] []
  nothing = record { checks = refl; formed = tt; erases = refl; kept_are = refl; long = refl; traced = refl }
