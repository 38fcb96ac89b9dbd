-- The search for the least top level: what holds before each level, and what each way on from there keeps. Assumes nothing.
use Prim.Native.Nat.{ℕ, suc, ◌+◌, ◌-◌, ◌≤◌, ◌<◌}
use native.Mathlib.Omega.{arith}
use mathlib.Core.Path.{◌≡◌, refl, sym, ap, ◌∙◌, subst}
use mathlib.Core.List.{List}
use borrow.Author.Rules.{rules}
use lib.IntN.{ℤ}
use lib.ListN.{length, take, set}
use lib.Signed.{mag}
use Rattle.std.specs.Prelude.{Result, Ok, Err}
use Rattle.model.specs.declared.Answer.{Answer}
use Rattle.model.specs.declared.Answer.TheVariants.{Done, Level, Refused}
use Rattle.model.specs.declared.Best.{Best}
use Rattle.model.specs.declared.Header.{Header}
use Rattle.model.specs.declared.Line.{Line}
use Rattle.model.specs.declared.Fault.{Fault}
use Rattle.model.specs.declared.Refusal.{Refusal}
use Rattle.model.specs.Scales.{with_top}
use Rattle.rows.specs.Rows.{place_of}
use Rattle.model.specs.Machine.{Run, finished, stopped, run}
use Rattle.model.specs.Plan.{best_machine}
use Rattle.model.specs.Answers.{try_levels, least_level}
use Rattle.model.specs.Refusals.{number_of, level_answer}
use Rattle.text.specs.Tables.{file_of}
use Rattle.tables.specs.declared.files.CircuitTable.{CircuitTable}
use Rattle.tables.specs.Files.{circuit_lines, circuit_held}
use Rattle.tables.specs.Bests.{reserves_run}
use Rattle.tables.specs.Records.{lines_held}
use Rattle.reserves.specs.Walks.{step_of, one_more}
use Rattle.choices.proofs.Readings as Readings
use Rattle.levels.specs.Tried.{at_level, tried}
use Rattle.levels.proofs.Walk.{Walking, walk_start, walk_known, line_below, level_fits, level_refused, walk_more}

-- What holds before each level: trying the levels from this one on comes to what trying all of them comes to.
pub record Seeking (t : CircuitTable) (level : ℕ) : Type 0 where
  pub low : 1 ≤ level
  pub high : level ≤ 60
  -- the refusal at the level before, if there is one
  pub last : Answer
  pub left : try_levels t.header (circuit_lines t) (suc (60 - level)) level last ≡ least_level (file_of (circuit_held t))

pub seek_start : (t : CircuitTable) → Seeking t 1
seek_start t = record { low = omega arith; high = omega arith; last = Done; left = refl }

-- the levels from l on, by what l itself comes to
module _ (h : Header) (lines : List Line) (left l : ℕ) (last : Answer) where
  abbrev onward : Answer → Answer
  onward Done = Done
  onward (Level m) = Level m
  onward (Refused n p) = try_levels h lines left (suc l) (Refused n p)

  by_level : onward (tried h lines l) ≡ try_levels h lines (suc left) l last
  unfolding tried
  by_level = go (run (best_machine (with_top h l)) lines)
    where
      go : (r : Run Best ℕ) → onward (at_level l r) ≡ (elim r [ finished best ↦ Level l | stopped i n ↦ try_levels h lines left (suc l) (Refused n (place_of i)) ])
      go (finished best) = refl
      go (stopped i n) = refl

module _ (t : CircuitTable) (l : ℕ) (s : Seeking t l) (r : Result ℕ Refusal) (e : level_answer r ≡ tried t.header (circuit_lines t) l) where
  reached : (a : Answer) → level_answer r ≡ a → onward t.header (circuit_lines t) (60 - l) l s.last a ≡ least_level (file_of (circuit_held t))
  reached a is = ap (onward t.header (circuit_lines t) (60 - l) l s.last) (sym is ∙ e) ∙ by_level t.header (circuit_lines t) (60 - l) l s.last ∙ s.left

  -- it fits
  pub level_found : (m : ℕ) → r ≡ Ok m → Level m ≡ least_level (file_of (circuit_held t))
  level_found m is = reached (Level m) (ap level_answer is)

  -- it does not
  module _ (f : Refusal) (is : r ≡ Err f) where
    refused : onward t.header (circuit_lines t) (60 - l) l s.last (Refused (number_of f.fault) f.place) ≡ least_level (file_of (circuit_held t))
    refused = reached (Refused (number_of f.fault) f.place) (ap level_answer is)

    pub next_level : l < 60 → Seeking t (l + 1)
    next_level k =
        let fewer : 60 - l ≡ suc (60 - (l + 1)) = omega arith in
        let up : suc l ≡ l + 1 = omega arith in
        record { low = omega arith; high = omega arith; last = Refused (number_of f.fault) f.place; left = rw (fewer, up) at refused }

    pub last_refused : l ≡ 60 → level_answer (Err f) ≡ least_level (file_of (circuit_held t))
    last_refused k = let none : 60 - l ≡ 0 = omega (arith, k) in rw none at refused

-- ---- the two loops
-- The invariant of the loop over levels, which keeps one array for all of them.
pub record Searching (t : CircuitTable) (reserves : List ℤ) (level : ℕ) : Type 0 where
  pub wide : length reserves ≡ 256
  pub seeks : Seeking t level

-- The invariant of the walk over the lines at a level, which stays.
pub record Trying (t : CircuitTable) (start level : ℕ) (h : Header) (reserves : List ℤ) (i : ℕ) : Type 0 where
  pub walking : Walking t level h reserves i
  pub stays : level ≡ start

pub search_start : (t : CircuitTable) (reserves : List ℤ) → length reserves ≡ 256 → Searching t reserves 1
search_start t reserves wide = record { wide = wide; seeks = seek_start t }

module _ {t : CircuitTable} {reserves : List ℤ} {l : ℕ} (s : Searching t reserves l) where
  pub try_start : {h : Header} → h ≡ with_top t.header l → Trying t l l h reserves 0
  try_start {h} e = record { walking = walk_start t l h reserves s.seeks.low s.seeks.high e s.wide; stays = refl }

  module _ {m i : ℕ} {h : Header} {later : List ℤ} (w : Trying t l m h later i) where
    here : Seeking t m
    here = subst (Seeking t) (sym w.stays) s.seeks

    -- every line has a best reserve
    pub try_found : t.count ≤ i → Level m ≡ least_level (file_of (circuit_held t))
    try_found k = level_found t m here (Ok m) (level_fits w.walking k) m refl

    -- a line has none
    module _
        (k : i < t.count)
        (r : Result ℤ Fault)
        (q : reserves_run h (lines_held t.records.now (i + 1)) ≡ one_more i (take i later) (step_of r))
        (f : Fault)
        (is : r ≡ Err f)
      where
        abbrev refusal : Refusal
        refusal = record { fault = f; place = i + 2 }

        tried_so : level_answer (Err refusal) ≡ tried t.header (circuit_lines t) m
        tried_so = level_refused w.walking k r q f (i + 2) is refl

        -- at the last level
        pub try_last : m ≡ 60 → Refused (number_of f) (i + 2) ≡ least_level (file_of (circuit_held t))
        try_last z = last_refused t m here (Err refusal) tried_so refusal refl z

        -- and at one before
        pub try_next : (m ≡ 60 → ⊥) → Searching t later (m + 1)
        try_next z = record { wide = w.walking.wide; seeks = next_level t m here (Err refusal) tried_so refusal refl (omega (arith, here.high)) }

-- ---- one line of the walk
module _ {t : CircuitTable} {start level : ℕ} {h : Header} {reserves : List ℤ} {i : ℕ} (w : Trying t start level h reserves i) where
  pub try_walks : Walking t level h reserves i
  try_walks = w.walking

  pub try_more : i < t.count → (r : Result ℤ Fault) → reserves_run h (lines_held t.records.now (i + 1)) ≡ one_more i (take i reserves) (step_of r) → (z : ℤ) → r ≡ Ok z
      → mag z < 2147483648 → Trying t start level h (set reserves i (Readings.held z)) (i + 1)
  try_more k r e z is f = record { walking = walk_more w.walking k r e z is f; stays = w.stays }

pub ruleset seeking = (rules, search_start, try_start, try_walks, walk_known, line_below, try_found, try_last, try_next, try_more)
