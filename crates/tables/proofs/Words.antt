-- A record's word and the line that it holds. Assumes nothing.
use Prim.Native.Nat.{ℕ, ◌/◌, ◌%◌, ◌≤◌, ◌<◌}
use native.Mathlib.Omega.{arith}
use mathlib.Core.Bool.{Bool}
use mathlib.Core.Path.{◌≡◌, refl, sym, ap, ◌∙◌}
use mathlib.Core.List.{List, [], ◌∷◌}
use borrow.Author.Rules.{rules}
use lib.IntN.{ℤ, pos}
use lib.ListN.{length, get_or, length-take, get_or-map, get_or-eq_default}
use lib.Seq.{get_or-take}
use Rattle.model.specs.declared.Line.{Line}
use Rattle.model.specs.declared.Line.TheVariants as Lines
use Rattle.model.specs.declared.Line.TheVariants.{Free}
use Rattle.model.specs.declared.Kind.{Kind}
use Rattle.model.specs.declared.Kind.TheVariants.{Nothing}
use Rattle.model.specs.declared.Word.{Word}
use Rattle.model.specs.declared.Word.TheVariants.{Const, Rot}
use Rattle.model.specs.Words.{entry}
use Rattle.model.specs.Files as Files
use Rattle.model.specs.Files.{word_of, kind_of, kind_at, is_constant}
use Rattle.model.proofs.EveryWord.{each_word}
use Rattle.tables.proofs.Amounts.{amount_back}
use Rattle.tables.specs.declared.Record.{Record}
use Rattle.tables.specs.Records.{amount_from, record_with, record_of, free_record, first_held, second_held, line_with, line_of, lines_of, lines_held, struck_word, is_struck}

-- ---- the record of a line
-- the record of a word and its three numbers
pub record_line : (w : Word) (a b c : ℕ) → line_of (record_with w a b c) ≡ line_with w a b c
unfolding line_of
record_line w a b c = refl

-- a constant number in two halves
pub halves_line : (k : ℕ) → line_with Const (k % 65536) (k / 65536) 0 ≡ Lines.Const k
halves_line k = ap Lines.Const (omega arith)

module _ (x : Line) (r : Record) where
  pub recorded : (y : Line) → x ≡ y → r ≡ record_of y → r ≡ record_of x
  recorded y e is = rw e is

  pub held_by_lem : (y : Line) → x ≡ y → line_of r ≡ y → line_of r ≡ x
  held_by_lem y e is = is ∙ sym e

  module _ (a n : ℕ) (t : ℤ) (e : x ≡ Lines.Rot a t) (amount : amount_from n ≡ t) where
    pub rotation_recorded : r ≡ record_with Rot a n 0 → r ≡ record_of x
    rotation_recorded is = is ∙ rw (e, ← amount, amount_back n)

    pub rotation_held : line_of r ≡ line_with Rot a n 0 → line_of r ≡ x
    rotation_held is = is ∙ ap (Lines.Rot a) amount ∙ sym e

  module _ (k low high : ℕ) (e : x ≡ Lines.Const k) (l : low ≡ k % 65536) (h : high ≡ k / 65536) where
    pub halves_recorded : r ≡ record_with Const low high 0 → r ≡ record_of x
    halves_recorded is = is ∙ rw (e, l, h)

    pub halves_held : line_of r ≡ line_with Const low high 0 → line_of r ≡ x
    halves_held is = is ∙ rw (l, h) (halves_line k) ∙ sym e

pub ruleset record_laws = (rules, record_line, recorded, held_by_lem, rotation_recorded, rotation_held, halves_recorded, halves_held)

-- ---- the line of a record
-- by its word
pub word_line : (r : Record) (w : Word) (x : Line) → r.word ≡ w → x ≡ line_with w r.first r.second r.third → x ≡ line_of r
unfolding line_of
word_line r w x is e = e ∙ ap (λ (u : Word). line_with u r.first r.second r.third) (sym is)

pub ruleset word_laws = (rules, word_line)

-- of record i
pub record_held : (records : List Record) (i : ℕ) → line_of (get_or records i free_record) ≡ get_or (lines_of records) i Free
unfolding line_of
record_held records i = sym (get_or-map line_of records i free_record)

pub line_held : (records : List Record) (i : ℕ) (x : Line) → x ≡ line_of (get_or records i free_record) → x ≡ get_or (lines_of records) i Free
line_held records i x e = e ∙ record_held records i

-- ---- the kind of a record's line by its word
pub line_word : (w : Word) (ns : List ℤ) → word_of (Files.line_of w ns) ≡ w
line_word w ns = each_word (λ v. word_of (Files.line_of v ns)) (λ v. v) refl w

pub word_with : (w : Word) (a b c : ℕ) → word_of (line_with w a b c) ≡ w
word_with w a b c = line_word w (first_held w a b ∷ second_held w b ∷ pos c ∷ [])

pub record_word : (r : Record) → word_of (line_of r) ≡ r.word
unfolding line_of
record_word r = word_with r.word r.first r.second r.third

module _ (records : List Record) (i : ℕ) where
  word_at : (get_or records i free_record).word ≡ word_of (get_or (lines_of records) i Free)
  word_at = sym (record_word (get_or records i free_record)) ∙ ap word_of (record_held records i)

  kind_held : (k : Kind) → k ≡ (entry (get_or records i free_record).word).kind → k ≡ kind_at (lines_of records) i
  kind_held k e = e ∙ ap (λ (v : Word). (entry v).kind) word_at

  pub constant_held : (k : Kind) (b : Bool) → k ≡ (entry (get_or records i free_record).word).kind → b ≡ is_constant k → b ≡ is_constant (kind_at (lines_of records) i)
  constant_held k b is e = e ∙ ap is_constant (kind_held k is)

  pub struck_there : (b : Bool) → b ≡ struck_word (get_or records i free_record).word → b ≡ is_struck (get_or (lines_of records) i Free)
  struck_there b e = e ∙ ap struck_word word_at

  module _ (count : ℕ) where
    pub kind_past : count ≤ length records → count ≤ i → Nothing ≡ kind_at (lines_held records count) i
    kind_past few h =
        let long : length (lines_held records count) ≤ i = omega (arith, length-take count (lines_of records)) in
        ap kind_of (sym (get_or-eq_default (lines_held records count) Free long))

    pub kind_there : (k : Kind) → i < count → k ≡ (entry (get_or records i free_record).word).kind → k ≡ kind_at (lines_held records count) i
    kind_there k h e = kind_held k e ∙ ap kind_of (sym (get_or-take count (lines_of records) i Free h))

pub ruleset held_laws = (rules, kind_past, kind_there, constant_held, struck_there)
