-- The lines of a table one after another: how many there are, the next one that is read, and one more that is stored. Assumes nothing.
use Prim.Native.Nat.{ℕ, zero, suc, ◌+◌, ◌≤◌, ◌<◌}
use native.Mathlib.Numerals.{add-one}
use native.Mathlib.Omega.{arith}
use mathlib.Core.Path.{◌≡◌, refl, sym, ap, ◌∙◌}
use mathlib.Core.List.{List, [], ◌∷◌, ◌++◌}
use lib.Dec.{leb→le}
use lib.ListN.{length, get_or, take, drop, set, length-map, drop_of_length-le}
use lib.Seq.{length-take-le, drop-cons, get_or-take, take-suc-set}
use Rattle.model.specs.declared.Grammar.{Grammar}
use Rattle.model.specs.declared.Header.{Header}
use Rattle.model.specs.declared.Line.{Line}
use Rattle.model.specs.declared.Line.TheVariants.{Free}
use Rattle.model.specs.Files.{limit}
use Rattle.text.specs.Tables.{TableFormed}
use Rattle.text.proofs.Tables.{limit_most}
use Rattle.tables.specs.declared.Record.{Record}
use Rattle.tables.specs.Records.{line_of, lines_of, lines_held, held}

-- ---- a well-formed table
module _ (g : Grammar) (h : Header) (records : List Record) (count : ℕ) (f : TableFormed g (held h records count)) where
  pub formed_few : count ≤ 1792
  formed_few = omega (arith, leb→le count (limit g) f.few, limit_most g)

  pub formed_long : length records ≡ 1792
  formed_long = sym (length-map records line_of) ∙ f.room

-- ---- reading
pub records_long : (records : List Record) → length records ≡ 1792 → length (lines_of records) ≡ 1792
records_long records long = length-map records line_of ∙ long

module _ (lines : List Line) (count : ℕ) (long : length lines ≡ 1792) (few : count ≤ 1792) where
  lines_long : length (take count lines) ≡ count
  lines_long = length-take-le count lines (omega arith)

  pub next_line_lem : (i : ℕ) → i < count → drop i (take count lines) ≡ get_or lines i Free ∷ drop (i + 1) (take count lines)
  next_line_lem i l = rw (add-one i, drop-cons (take count lines) i Free (omega (arith, lines_long)), get_or-take count lines i Free l)

  pub no_line_lem : (i : ℕ) → count ≤ i → drop i (take count lines) ≡ []
  no_line_lem i l = let past : length (take count lines) ≤ i = omega (arith, lines_long) in drop_of_length-le (take count lines) past

-- ---- storing
pub lines_set : (records : List Record) (i : ℕ) (r : Record) → lines_of (set records i r) ≡ set (lines_of records) i (line_of r)
lines_set [] i r = refl
lines_set (q ∷ records) zero r = refl
lines_set (q ∷ records) (suc i) r = ap (λ (l : List Line). line_of q ∷ l) (lines_set records i r)

-- a record that holds line x, after n others
pub stored_lines :
    (records : List Record) (n : ℕ) (r : Record) (x : Line) → n < length records → line_of r ≡ x →
    lines_held (set records n r) (n + 1) ≡ lines_held records n ++ (x ∷ [])
stored_lines records n r x l e =
    rw (add-one n, lines_set records n r, e) (take-suc-set (lines_of records) n x (omega (arith, length-map records line_of)))
