-- The loop that fills the erasure's records: what holds whenever its test is reached, and what each way on from there keeps. Assumes nothing.
use Prim.Native.Nat.{ℕ, ◌+◌, ◌≤◌, ◌<◌}
use native.Mathlib.Omega.{arith}
use mathlib.Core.Path.{◌≡◌, refl, sym, ap, ◌∙◌}
use mathlib.Core.List.{List, ◌++◌, append_assoc, append-nil}
use borrow.Author.Rules.{rules}
use lib.ListN.{length, get_or, set, replicate, length-set}
use Rattle.model.specs.declared.Line.{Line}
use Rattle.model.specs.declared.Line.TheVariants.{Free}
use Rattle.model.specs.Services.{erase}
use Rattle.tables.specs.declared.Record.{Record}
use Rattle.tables.specs.Records.{line_of, lines_of, lines_held, free_records, IsSchedule}
use Rattle.tables.proofs.Records.{free_long}
use Rattle.tables.proofs.HeldLines.{stored_lines}
use Rattle.erasing.specs.declared.Erased.{Erased}
use Rattle.erasing.specs.declared.Erased.TheVariants.{Kept, Struck}
use Rattle.erasing.specs.Lines.{erased_to, erased_by}
use Rattle.erasing.proofs.Walking.{Walking, rest_of, walk_start, none_left, few_kept, place_fits, walk_on, rest_kept, rest_struck}

-- The loop's invariant: the records hold what erasing keeps of the schedule's first i lines, and with what it keeps of the rest that is
-- the whole erasure.
pub record Filling (schedule : List Record) (count : ℕ) (erasure : List Record) (origins : List ℕ) (at i : ℕ) : Type 0 where
  pub walk : Walking schedule count origins at i
  pub room : length erasure ≡ 1792
  pub left : lines_held erasure at ++ rest_of schedule count origins at i ≡ erase (lines_held schedule count)

-- the records were free, and are as many as they were
pub as_many : (before after : List Record) → before ≡ free_records → length after ≡ 1792 → length after ≡ length before
as_many before after free room = room ∙ sym (free_long before free)

pub start :
    (schedule : List Record) (count : ℕ) (erasure : List Record) → IsSchedule schedule count → erasure ≡ free_records →
    Filling schedule count erasure (replicate 1792 0) 0 0
start schedule count erasure formed free = record { walk = walk_start schedule count formed; room = free_long erasure free; left = refl }

module _
    (schedule : List Record) (count : ℕ) (erasure : List Record) (origins : List ℕ) (at i : ℕ)
    (f : Filling schedule count erasure origins at i) where
  -- every line is read
  pub all_erased : count ≤ i → lines_held erasure at ≡ erase (lines_held schedule count)
  all_erased end =
      sym (append-nil (lines_held erasure at)) ∙ ap (λ (l : List Line). lines_held erasure at ++ l) (sym (none_left schedule count origins at i f.walk end)) ∙ f.left

  module _ (inside : i < count) (r : Erased) (told : erased_to r ≡ erased_by origins (get_or (lines_of schedule) i Free)) (erasure' : List Record) (origins' : List ℕ) (at' : ℕ) where
    pub after_struck :
        (o : ℕ) → r ≡ Struck o → erasure' ≡ erasure → origins' ≡ set origins i o → at' ≡ at → Filling schedule count erasure' origins' at' (i + 1)
    after_struck o e p q n =
        rw (p, q, n)
        (record {
          walk = walk_on schedule count origins at i f.walk inside o at (omega (arith, f.walk.fewer));
          room = f.room;
          left =
              ap (λ (l : List Line). lines_held erasure at ++ l) (sym (rest_struck schedule count origins at i f.walk inside r told o e)) ∙ f.left;
        })

    pub after_kept :
        (k : Record) → r ≡ Kept k → erasure' ≡ set erasure at k → origins' ≡ set origins i at → at' ≡ at + 1 →
        Filling schedule count erasure' origins' at' (i + 1)
    after_kept k e p q n =
        rw (p, q, n)
        (record {
          walk = walk_on schedule count origins at i f.walk inside at (at + 1) (omega (arith, f.walk.fewer));
          room = length-set erasure at k ∙ f.room;
          left =
              rw (stored_lines erasure at k (line_of k) (omega (arith, f.walk.fewer, f.walk.few, f.room)) refl, append_assoc)
              (ap (λ (l : List Line). lines_held erasure at ++ l) (sym (rest_kept schedule count origins at i f.walk inside r told k e)) ∙ f.left);
        })

pub ruleset filling_laws = (rules, as_many, start, all_erased, few_kept, place_fits)
