-- The line that a text begins with is judged by its word and the fields after it, and of the lines before it by their words alone. Assumes nothing.
use Prim.Native.Nat.{ℕ, zero, suc, ◌+◌}
use native.Mathlib.Omega.{arith}
use mathlib.Core.Path.{◌≡◌, refl, sym, ap, ap₂, ◌∙◌, subst}
use mathlib.Core.Bool.{Bool, true, false, cond, ◌&&◌}
use mathlib.Core.List.{List, [], ◌∷◌, map}
use mathlib.Core.Option
use mathlib.Core.Option.{Option, none, some}
use lib.Dec.{T}
use lib.IntN.{ℤ}
use lib.ListN.{length, get_or, drop}
use lib.Seq.{drop-drop}
use Rattle.fields.specs.Pieces.{Bytes}
use Rattle.rows.specs.Forms.{Said, saying, named}
use Rattle.rows.specs.Rows.{Judgement, bad, Tests, judged, formed}
use Rattle.model.specs.declared.Grammar.{Grammar}
use Rattle.model.specs.declared.Grammar.TheVariants.{Circuit}
use Rattle.model.specs.declared.Header.{Header}
use Rattle.model.specs.declared.Kind.{Kind}
use Rattle.model.specs.declared.Kind.TheVariants.{Nothing}
use Rattle.model.specs.declared.Line.{Line}
use Rattle.model.specs.declared.Word.{Word}
use Rattle.model.specs.Words.{entry, has_word}
use Rattle.model.specs.Files.{said, line_of, word_of, row_of, is_word, in_range, kind_at, operands, is_usable, every_usable, asks_for, line_tests}
use Rattle.listings.specs.declared.Levels.{Levels}
use Rattle.listings.specs.declared.Levels.TheVariants.{Falling, Rising}
use Rattle.listings.specs.Listings.{Listed, line, downscale, ListedWord, word, ds, word_bytes, word_fields, listed_of, turned_numbers}
use Rattle.text.specs.Files.{kept_count}
use Rattle.forms.specs.Along.{line_in, is_closed, field_in, numbers_in}
use Rattle.forms.proofs.WordLaws.{uncut, field_line}
use Rattle.forms.proofs.TextLaws.{worded_reads, worded_none}
use Rattle.tables.proofs.Words.{line_word}
use Rattle.words.specs.Words.{words_of, vocabulary_of, or_none, listed_in, held_word, past_word}
use Rattle.words.proofs.WordLaws.{word_named, field_named}
use Rattle.judging.specs.Judging.{operand_tests}
use Rattle.lines.specs.Lines.{held_as, tested_as, listed_tests, line_form_of, judgement_held, word_judged, line_judged}

-- ---- a line as it is held, and the line that its tests are of: the same word, operands and kind
pub tested_word : (levels : Levels) (h : Header) (v : ListedWord) (ns : List ℤ) → word_of (tested_as levels h (listed_of v ns)) ≡ held_word v
tested_word Falling h (word w) ns = line_word w ns
tested_word Falling h ds ns = refl
tested_word Rising h (word w) ns = line_word (word_of (line_of w ns)) (turned_numbers h.top (row_of (line_of w ns)).fields (said (line_of w ns)).numbers) ∙ line_word w ns
tested_word Rising h ds ns = refl

held_word_lem : (levels : Levels) (h : Header) (x : Listed) → word_of (tested_as levels h x) ≡ word_of (held_as levels h x)
held_word_lem Falling h (line x) = refl
held_word_lem Falling h (downscale a) = refl
held_word_lem Rising h (line x) = refl
held_word_lem Rising h (downscale a) = refl

pub operand_tests_lem : (levels : Levels) (g : Grammar) (h : Header) (lines : List Line) (x : Listed)
    → operand_tests g lines (tested_as levels h x) ≡ operand_tests g lines (held_as levels h x)
operand_tests_lem Falling g h lines (line x) = refl
operand_tests_lem Falling g h lines (downscale a) = refl
operand_tests_lem Rising g h lines (line x) = refl
operand_tests_lem Rising g h lines (downscale a) = refl

pub judged_held : (levels : Levels) (h : Header) (ts : Tests) (x : Listed) → judgement_held levels h (judged ts x) ≡ judged ts (held_as levels h x)
judged_held levels h [] x = refl
judged_held levels h ((n, true) ∷ more) x = judged_held levels h more x
judged_held levels h ((n, false) ∷ more) x = refl

-- ---- the lines before
pub kinds_held : (levels : Levels) (h : Header) (rows : List Listed) (a : ℕ) → kind_at (map (tested_as levels h) rows) a ≡ kind_at (map (held_as levels h) rows) a
kinds_held levels h [] a = refl
kinds_held levels h (x ∷ rows) zero = ap (λ (w : Word). (entry w).kind) (held_word_lem levels h x)
kinds_held levels h (x ∷ rows) (suc a) = kinds_held levels h rows a

pub kept_held : (levels : Levels) (h : Header) (rows : List Listed) → kept_count (map (tested_as levels h) rows) ≡ kept_count (map (held_as levels h) rows)
kept_held levels h [] = refl
kept_held levels h (x ∷ rows) =
    ap₂ (λ (w : Word) (n : ℕ). cond (has_word Circuit w) (suc n) n) (held_word_lem levels h x) (kept_held levels h rows)

module _ (done other : List Line) (alike : (a : ℕ) → kind_at done a ≡ kind_at other a) where
  usable_alike : (names : List ℕ) → every_usable done names ≡ every_usable other names
  usable_alike [] = refl
  usable_alike (a ∷ names) = ap₂ (λ (k : Kind) (b : Bool). is_usable k && b) (alike a) (usable_alike names)

  kinds_alike : (names : List ℕ) → map (kind_at done) names ≡ map (kind_at other) names
  kinds_alike [] = refl
  kinds_alike (a ∷ names) = ap₂ (λ (k : Kind) (ks : List Kind). k ∷ ks) (alike a) (kinds_alike names)

  tests_alike : (g : Grammar) (h : Header) (x : Line) → line_tests g h done x ≡ line_tests g h other x
  tests_alike g h x =
      ap₂ (λ (u k : Bool). (1, is_word g x) ∷ (11, in_range h x) ∷ (4, u) ∷ (5, k) ∷ []) (usable_alike (operands x))
      (ap (λ (ks : List Kind). asks_for g (row_of x).asks (get_or ks 0 Nothing) (get_or ks 1 Nothing)) (kinds_alike (operands x)))

  pub word_alike : (levels : Levels) (g : Grammar) (h : Header) (v : ListedWord) (t : Bytes) → word_judged levels g h done v t ≡ word_judged levels g h other v t
  unfolding word_judged
  word_alike levels g h v t =
      ap (λ (j : Judgement Listed). cond (has_word g (held_word v)) (judgement_held levels h j) (bad 1)) (go (Option.map (listed_of v) (numbers_in (word_fields v) t)))
    where
      go : (o : Option Listed) → formed o (listed_tests levels g h done) ≡ formed o (listed_tests levels g h other)
      go none = refl
      go (some x) = ap (λ (ts : Tests). judged ts x) (tests_alike g h (tested_as levels h x))

-- ---- the line
module _ (levels : Levels) (g : Grammar) (h : Header) (done : List Line) (t : Bytes) (v : ListedWord) (is : v ≡ listed_in levels t) where
  -- the numbers that are read after the word make the line
  said_line : (o : Option (List ℤ)) → Option.map (λ s. listed_of s.word s.numbers) (Option.map (saying v) o) ≡ Option.map (listed_of v) o
  said_line none = refl
  said_line (some ns) = refl

  has_word_lem : T (has_word g (held_word v))
      → line_judged levels g h done t ≡ formed (Option.map (listed_of v) (numbers_in (word_fields v) (drop (length (field_in t)) t))) (listed_tests levels g h done)
  unfolding line_judged
  has_word_lem has = go (is_closed t) refl
    where
      go : (b : Bool) → is_closed t ≡ b → cond b (formed ((line_form_of levels).reads (line_in t)) (listed_tests levels g h done)) (bad 1)
          ≡ formed (Option.map (listed_of v) (numbers_in (word_fields v) (drop (length (field_in t)) t))) (listed_tests levels g h done)
      go true e =
          ap (λ (o : Option Listed). formed o (listed_tests levels g h done))
          (ap (Option.map (λ s. listed_of s.word s.numbers)) (worded_reads t e (vocabulary_of levels) v (word_named levels g t v is has))
          ∙ said_line (numbers_in (word_fields v) (drop (length (field_in t)) t)))
      go false e = ap (λ (o : Option (List ℤ)). formed (Option.map (listed_of v) o) (listed_tests levels g h done)) (sym (uncut (word_fields v) t e))

  -- a word that the file does not have fails the first test
  other_tests : (u : ListedWord) (o : Option (List ℤ)) → has_word g (held_word u) ≡ false → formed (Option.map (listed_of u) o) (listed_tests levels g h done) ≡ bad 1
  other_tests u none e = refl
  other_tests u (some ns) e = rw (ap (has_word g) (tested_word levels h u ns) ∙ e)

  no_such_word : has_word g (held_word v) ≡ false → line_judged levels g h done t ≡ bad 1
  unfolding line_judged listed_in
  no_such_word lacks = go (is_closed t) refl (named (vocabulary_of levels) (words_of levels) (field_in t)) refl
    where
      go : (b : Bool) → is_closed t ≡ b → (o : Option ListedWord) → named (vocabulary_of levels) (words_of levels) (field_in t) ≡ o
          → cond b (formed ((line_form_of levels).reads (line_in t)) (listed_tests levels g h done)) (bad 1) ≡ bad 1
      go false e o n = refl
      go true e none n =
          ap (λ (o : Option (Said ListedWord)). formed (Option.map (λ s. listed_of s.word s.numbers) o) (listed_tests levels g h done))
          (worded_none t e (vocabulary_of levels) n)
      go true e (some u) n =
          let same : v ≡ u = is ∙ ap or_none n in
          ap (λ (o : Option Listed). formed o (listed_tests levels g h done))
          (ap (Option.map (λ s. listed_of s.word s.numbers)) (worded_reads t e (vocabulary_of levels) v (n ∙ ap some (sym same)))
          ∙ said_line (numbers_in (word_fields v) (drop (length (field_in t)) t)))
          ∙ other_tests v (numbers_in (word_fields v) (drop (length (field_in t)) t)) lacks

-- as the code finds it: the line at a place, by its word and the place past the word
module _ (levels : Levels) (g : Grammar) (h : Header) (done : List Line) (s : Bytes) (at : ℕ) (v : ListedWord) (is : v ≡ listed_in levels (drop at s))
    (end : ℕ) (past : end ≡ past_word at v) where
  pub line_by_word : judgement_held levels h (line_judged levels g h done (drop at s)) ≡ word_judged levels g h done v (drop end s)
  unfolding word_judged
  line_by_word = go (has_word g (held_word v)) refl
    where
      go : (b : Bool) → has_word g (held_word v) ≡ b → judgement_held levels h (line_judged levels g h done (drop at s))
          ≡ cond b (judgement_held levels h (formed (Option.map (listed_of v) (numbers_in (word_fields v) (drop end s))) (listed_tests levels g h done))) (bad 1)
      go true e =
          let has : T (has_word g (held_word v)) = subst T (sym e) tt in
          let there : drop (length (field_in (drop at s))) (drop at s) ≡ drop end s =
          ap (λ (f : Bytes). drop (length f) (drop at s)) (field_named levels g (drop at s) v is has) ∙ drop-drop (length (word_bytes v)) at s
          ∙ ap (λ (n : ℕ). drop n s) (sym past) in
          ap (judgement_held levels h) (has_word_lem levels g h done (drop at s) v is has
          ∙ ap (λ (t : Bytes). formed (Option.map (listed_of v) (numbers_in (word_fields v) t)) (listed_tests levels g h done)) there)
      go false e = ap (judgement_held levels h) (no_such_word levels g h done (drop at s) v is e)

  -- and it ends where what follows the word ends
  pub line_past_word : T (has_word g (held_word v)) → at + length (line_in (drop at s)) ≡ end + length (line_in (drop end s))
  line_past_word has =
      let field = ap length (field_named levels g (drop at s) v is has) in
      let there : drop (length (field_in (drop at s))) (drop at s) ≡ drop end s =
      ap (λ (n : ℕ). drop n (drop at s)) field ∙ drop-drop (length (word_bytes v)) at s ∙ ap (λ (n : ℕ). drop n s) (sym past) in
      omega (arith, field, field_line (drop at s), ap (λ (t : Bytes). length (line_in t)) there)
