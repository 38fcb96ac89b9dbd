-- The counts beside a table: what holds after the first i lines, and what one line more makes of it. Assumes nothing.
use Prim.Native.Nat.{ℕ, suc, ◌+◌, ◌*◌, ◌-◌, ◌≤◌, ◌<◌}
use native.Mathlib.Numerals.{add-one}
use native.Mathlib.Omega.{arith}
use mathlib.Core.Path.{◌≡◌, refl, sym, ap, ◌∙◌, subst}
use mathlib.Core.Bool.{Bool, true, false, ◌&&◌}
use mathlib.Core.List.{List}
use mathlib.Core.Logic.{⊎_elim}
use borrow.Author.Rules.{rules}
use borrow.Author.Tests.{lt-ltb, le-ltb, le-leb, lt-leb, eq-eqb, ne_eqb}
use lib.Dec.{eqb, leb, ltb}
use lib.ListN.{length, get_or, set, replicate, length-set, length-replicate}
use lib.Seq.{get_or-set_same, get_or-set_other, set-get_or}
use mir.Syntax.{w16, w64}
use mir.Val.{Fits}
use Rattle.model.specs.declared.Kind.{Kind}
use Rattle.model.specs.declared.Line.{Line}
use Rattle.model.specs.Files.{kind_at, is_ciphertext}
use Rattle.model.proofs.Tests.{below_or_not}
use Rattle.tables.specs.declared.Record.{Record}
use Rattle.tables.specs.Records.{lines_held, IsSchedule}
use Rattle.tables.proofs.Beside.{none_most}
use Rattle.liveness.specs.Live.{entry_of, one_if, how_many, live_after}
use Rattle.liveness.specs.Kept.{starts_live, HasEntries, HasCounts}
use Rattle.liveness.proofs.Tests.{and_true, and_false}
use Rattle.liveness.proofs.Scans.{entry_high, entry_low, one_most, many_most, many_parts, lives_to, live_by_entries}
use Rattle.liveness.proofs.Naming.{table_few, table_long, table_lines_lem, table_earlier}

-- ---- a value that begins
module _ (lines : List Line) (v entry : ℕ) where
  pub not_later : entry ≤ v → false ≡ starts_live lines v entry
  not_later l = sym (ap (λ (c : Bool). is_ciphertext (kind_at lines v) && c) (le-ltb v entry l) ∙ and_false (is_ciphertext (kind_at lines v)))

  pub named_later_lem : (k : Kind) (b : Bool) → v < entry → k ≡ kind_at lines v → b ≡ is_ciphertext k → b ≡ starts_live lines v entry
  named_later_lem k b l is e =
      e ∙ ap is_ciphertext is ∙ sym (ap (λ (c : Bool). is_ciphertext (kind_at lines v) && c) (lt-ltb v entry l) ∙ and_true (is_ciphertext (kind_at lines v)))

pub ruleset starts_laws = (rules, not_later, named_later_lem)

module _ (starts : Bool) (live entry : ℕ) (ends : List ℕ) where
  pub one_more_live : (b : Bool) → b ≡ starts → b ≡ true → live + 1 ≡ live + one_if starts
  one_more_live b e t = ap (λ (c : Bool). live + one_if c) (sym t ∙ e)

  pub none_more_live : (b : Bool) → b ≡ starts → b ≡ false → live ≡ live + one_if starts
  none_more_live b e t = omega (arith, ap one_if (sym t ∙ e))

  pub one_more_ends : (b : Bool) → b ≡ starts → b ≡ true → set ends entry (get_or ends entry 0 + 1) ≡ set ends entry (get_or ends entry 0 + one_if starts)
  one_more_ends b e t = ap (λ (c : Bool). set ends entry (get_or ends entry 0 + one_if c)) (sym t ∙ e)

  pub none_more_ends : (b : Bool) → b ≡ starts → b ≡ false → ends ≡ set ends entry (get_or ends entry 0 + one_if starts)
  none_more_ends b e t =
      sym (ap (λ (n : ℕ). set ends entry n) (let none = ap one_if (sym t ∙ e) in omega (arith, none)) ∙ set-get_or ends entry 0)

  pub place_wide : entry < 1792 → Fits w64 entry
  place_wide l = record { fits = omega arith }

  pub place_twice : entry < 1792 → Fits w64 (entry * 2)
  place_twice l = record { fits = omega arith }

  pub end_more : get_or ends entry 0 < 1792 → Fits w16 (get_or ends entry 0 + 1)
  end_more l = record { fits = omega arith }

  pub live_more : live < 1792 → Fits w16 (live + 1)
  live_more l = record { fits = omega arith }

pub ruleset begin_laws = (rules, one_more_live, none_more_live, one_more_ends, none_more_ends, place_wide, place_twice, end_more, live_more)

-- ---- the loop
-- whether value v is one that begins and ends with line j
abbrev ends_with : List Line → ℕ → ℕ → Bool
ends_with lines j v = starts_live lines v (entry_of lines v) && eqb (entry_of lines v) j

pub record Counting (records : List Record) (count : ℕ) (entries counts ends : List ℕ) (live i : ℕ) : Type 0 where
  pub table : IsSchedule records count
  pub has : HasEntries (lines_held records count) entries
  pub few : count ≤ 1792
  pub entries_wide : length entries ≡ 1792
  pub counts_wide : length counts ≡ 1792
  pub ends_wide : length ends ≡ 1792
  pub within : i ≤ count
  pub live_is : live ≡ how_many (lives_to (lines_held records count) i) i
  pub ends_are : (j : ℕ) → i ≤ j → get_or ends j 0 ≡ how_many (ends_with (lines_held records count) j) i
  pub known : (l : ℕ) → l < i → get_or counts l 0 ≡ live_after (lines_held records count) l

pub counting_start :
    (records : List Record) (count : ℕ) (entries counts : List ℕ) → IsSchedule records count → HasEntries (lines_held records count) entries →
    length counts ≡ 1792 → Counting records count entries counts (replicate 1792 0) 0 0
counting_start records count entries counts t has wide =
    record {
      table = t;
      has = has;
      few = table_few records count t;
      entries_wide = has.wide;
      counts_wide = wide;
      ends_wide = length-replicate {A = ℕ} 1792 0;
      within = omega arith;
      live_is = refl;
      ends_are = λ j l. let none = none_most 1792 0 j in omega (arith, none);
      known = λ l less. absurd (omega arith);
    }

module _
    (records : List Record) (count : ℕ) (entries counts ends : List ℕ) (live i : ℕ) (k : Counting records count entries counts ends live i) where
  abbrev lines : List Line
  lines = lines_held records count

  lines_long : length lines ≡ count
  lines_long = table_lines_lem records count k.table

  pub counting_done : count ≤ i → HasCounts lines counts
  counting_done end = record { wide = k.counts_wide; count_is = λ l inside. k.known l (omega (arith, inside, lines_long)) }

  pub records_within : count ≤ length records
  records_within = omega (arith, k.few, table_long records count k.table)

  live_most : live ≤ i
  live_most = let most = many_most (lives_to lines i) i in omega (arith, k.live_is, most)

  module _ (more : i < count) where
    pub room : i < 1792
    room = omega (arith, k.few)

    abbrev entry : ℕ
    entry = get_or entries i 0

    entry_known : entry ≡ entry_of lines i
    entry_known = k.has.entry_is i (omega (arith, lines_long))

    pub entry_below : entry < 1792
    entry_below = let high = entry_high i lines (omega (arith, lines_long)) in omega (arith, high, entry_known, lines_long, k.few)

    entry_from : i ≤ entry
    entry_from = let low = entry_low lines (table_earlier records count k.table) i in omega (arith, low, entry_known)

    pub live_below : live < 1792
    live_below = omega (arith, live_most, room)

    pub end_below : get_or ends entry 0 < 1792
    end_below = let most = many_most (ends_with lines entry) i in omega (arith, k.ends_are entry entry_from, most, room)

    module _ (next : ℕ) (after : List ℕ) (live-after : next ≡ live + one_if (starts_live lines i entry)) (ends-after : after ≡ set ends entry (get_or ends entry 0 + one_if (starts_live lines i entry))) where
      abbrev starts : Bool
      starts = starts_live lines i (entry_of lines i)

      abbrev begins : ℕ
      begins = one_if (starts_live lines i entry)

      begins_is : begins ≡ one_if starts
      begins_is = ap (λ (e : ℕ). one_if (starts_live lines i e)) entry_known

      begins_most : begins ≤ 1
      begins_most = let most = one_most starts in omega (arith, begins_is, most)

      -- nothing begins at a line that is its own value's entry
      begins_late : entry ≤ i → begins ≡ 0
      begins_late own = begins_is ∙ go (is_ciphertext (kind_at lines i))
        where
          go : (c : Bool) → one_if (c && ltb i (entry_of lines i)) ≡ 0
          go true = ap one_if (le-ltb i (entry_of lines i) (omega (arith, entry_known)))
          go false = refl

      ended : get_or ends entry 0 ≡ how_many (ends_with lines entry) i
      ended = k.ends_are entry entry_from

      abbrev ends_then : List ℕ
      ends_then = set ends entry (get_or ends entry 0 + begins)

      -- what ends with this line
      ends_here : get_or ends_then i 0 ≡ how_many (ends_with lines i) i
      ends_here = ⊎_elim later own (below_or_not i entry)
        where
          later : i < entry → get_or ends_then i 0 ≡ how_many (ends_with lines i) i
          later less = get_or-set_other ends entry i (get_or ends entry 0 + begins) 0 (λ same. omega (arith, same)) ∙ k.ends_are i (omega arith)

          own : entry ≤ i → get_or ends_then i 0 ≡ how_many (ends_with lines i) i
          own most =
              let same : i ≡ entry = omega (arith, entry_from) in
              let none = begins_late most in
              ap (λ (a : ℕ). get_or ends_then a 0) same ∙ get_or-set_same ends entry (get_or ends entry 0 + begins) 0 (omega (arith, k.ends_wide, entry_below))
              ∙ omega (arith, none, ended) ∙ ap (λ (a : ℕ). how_many (ends_with lines a) i) (sym same)

      -- those that are live before the line end with it or live on
      parts : live ≡ how_many (lives_to lines (suc i)) i + how_many (ends_with lines i) i
      parts = k.live_is ∙ many_parts (lives_to lines i) (lives_to lines (suc i)) (ends_with lines i) i (λ v l. go (starts_live lines v (entry_of lines v)) (entry_of lines v))
        where
          go : (b : Bool) (e : ℕ) → one_if (b && leb i e) ≡ one_if (b && leb (suc i) e) + one_if (b && eqb e i)
          go false e = refl
          go true e =
              ⊎_elim
              (λ less.
              let first = ap one_if (lt-leb i e less) in
              let second = ap one_if (lt-leb (suc i) e (omega arith)) in
              let third = ap one_if (ne_eqb e i (λ same. omega arith)) in
              omega (arith, first, second, third))
              (λ most.
              ⊎_elim
              (λ here.
              let first = ap one_if (le-leb i e most) in
              let second = ap one_if (lt-leb (suc i) e (omega arith)) in
              let third = ap one_if (eq-eqb e i (omega arith)) in
              omega (arith, first, second, third))
              (λ past.
              let first = ap one_if (le-leb i e most) in
              let second = ap one_if (le-leb (suc i) e past) in
              let third = ap one_if (ne_eqb e i (λ same. omega arith)) in
              omega (arith, first, second, third))
              (below_or_not e (suc i)))
              (below_or_not e i)

      pub enough_live : get_or after i 0 ≤ next
      enough_live = omega (arith, ends_here, parts, live-after, ap (λ (a : List ℕ). get_or a i 0) ends-after)

      -- the line's own value
      own_lives : one_if (lives_to lines (suc i) i) ≡ begins
      own_lives = go (is_ciphertext (kind_at lines i)) ∙ sym begins_is
        where
          same : (c : Bool) → c && c ≡ c
          same true = refl
          same false = refl

          go : (c : Bool) → one_if ((c && ltb i (entry_of lines i)) && leb (suc i) (entry_of lines i)) ≡ one_if (c && ltb i (entry_of lines i))
          go true = ap one_if (same (ltb i (entry_of lines i)))
          go false = refl

      live_then : live + begins - get_or ends_then i 0 ≡ how_many (lives_to lines (suc i)) (suc i)
      live_then = omega (arith, ends_here, parts, own_lives)

      after_line_lem : live + begins - get_or ends_then i 0 ≡ live_after lines i
      after_line_lem = live_then ∙ sym (live_by_entries lines i)

      counted : Counting records count entries (set counts i (live + begins - get_or ends_then i 0)) ends_then (live + begins - get_or ends_then i 0) (i + 1)
      counted =
          record {
            table = k.table;
            has = k.has;
            few = k.few;
            entries_wide = k.entries_wide;
            counts_wide = length-set counts i _ ∙ k.counts_wide;
            ends_wide = length-set ends entry _ ∙ k.ends_wide;
            within = omega arith;
            live_is = live_then ∙ ap (λ (n : ℕ). how_many (lives_to lines n) n) (sym (add-one i));
            ends_are = ends_then_lem;
            known = λ l less.
                ⊎_elim (λ before. get_or-set_other counts i l _ 0 (λ same. omega arith) ∙ k.known l before)
                (λ most.
                let same : l ≡ i = omega arith in
                ap (λ (a : ℕ). get_or (set counts i (live + begins - get_or ends_then i 0)) a 0) same
                ∙ get_or-set_same counts i _ 0 (omega (arith, room, k.counts_wide)) ∙ after_line_lem ∙ ap (live_after lines) (sym same))
                (below_or_not l i);
          }
        where
          ends_then_lem : (j : ℕ) → i + 1 ≤ j → get_or ends_then j 0 ≡ how_many (ends_with lines j) (i + 1)
          ends_then_lem j past = ⊎_elim other (λ most. ⊎_elim (λ less. far less) (λ here. same (omega arith)) (below_or_not j entry)) (below_or_not entry j)
            where
              one_more_lem : how_many (ends_with lines j) (i + 1) ≡ how_many (ends_with lines j) i + one_if (starts && eqb (entry_of lines i) j)
              one_more_lem = ap (how_many (ends_with lines j)) (add-one i)

              unlike : (entry_of lines i ≡ j → ⊥) → one_if (starts && eqb (entry_of lines i) j) ≡ 0
              unlike not_same = ap (λ (c : Bool). one_if (starts && c)) (ne_eqb (entry_of lines i) j not_same) ∙ ap one_if (and_false starts)

              kept : (entry ≡ j → ⊥) → get_or ends_then j 0 ≡ how_many (ends_with lines j) (i + 1)
              kept not_same =
                  let here = k.ends_are j (omega arith) in
                  let none = unlike (λ e. not_same (entry_known ∙ e)) in
                  get_or-set_other ends entry j (get_or ends entry 0 + begins) 0 (λ e. not_same (sym e)) ∙ omega (arith, here, none, one_more_lem)

              other : entry < j → get_or ends_then j 0 ≡ how_many (ends_with lines j) (i + 1)
              other less = kept (λ e. omega (arith, e))

              far : j < entry → get_or ends_then j 0 ≡ how_many (ends_with lines j) (i + 1)
              far less = kept (λ e. omega (arith, e))

              same : entry ≡ j → get_or ends_then j 0 ≡ how_many (ends_with lines j) (i + 1)
              same e =
                  let here = k.ends_are j (omega arith) in
                  let all : one_if (starts && eqb (entry_of lines i) j) ≡ one_if starts =
                  ap (λ (c : Bool). one_if (starts && c)) (eq-eqb (entry_of lines i) j (sym entry_known ∙ e)) ∙ ap one_if (and_true starts) in
                  let read : get_or ends entry 0 ≡ get_or ends j 0 = ap (λ (a : ℕ). get_or ends a 0) e in
                  ap (λ (a : ℕ). get_or ends_then a 0) (sym e) ∙ get_or-set_same ends entry (get_or ends entry 0 + begins) 0 (omega (arith, k.ends_wide, entry_below))
                  ∙ omega (arith, here, all, read, begins_is, one_more_lem)

      pub line_counted : Counting records count entries (set counts i (next - get_or after i 0)) after (next - get_or after i 0) (i + 1)
      line_counted =
          subst (λ (n : ℕ). Counting records count entries (set counts i (n - get_or after i 0)) after (n - get_or after i 0) (i + 1)) (sym live-after)
          (subst (λ (a : List ℕ). Counting records count entries (set counts i (live + begins - get_or a i 0)) a (live + begins - get_or a i 0) (i + 1)) (sym ends-after) counted)

pub ruleset counting_laws = (rules, counting_start, counting_done, records_within, room, entry_below, live_below, end_below, enough_live, line_counted)
