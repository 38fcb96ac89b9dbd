-- Words: which one a line begins with, and what its number tells. Assumes nothing.
use Prim.Native.Nat.{ℕ, zero, suc, ◌+◌, ◌-◌, ◌≤◌, ◌<◌}
use native.Mathlib.Omega.{arith}
use mathlib.Core.Path.{◌≡◌, refl, sym, ap, ap₂, subst, ◌∙◌}
use mathlib.Core.List.{List, [], ◌∷◌, ◌++◌, map}
use mathlib.Core.Bool.{Bool, true, false, cond, ◌&&◌, ◌||◌}
use mathlib.Core.Option
use mathlib.Core.Option.{Option, none, some}
use borrow.Author.Rules.{rules}
use borrow.Author.Tests.{not-true, not-false, lt-ltb, le-ltb, ne_eqb}
use lib.Dec.{T, eqb, leb, leb→le}
use lib.ListN.{length, get_or, drop, length-drop}
use lib.Seq.{get_or-drop}
use Rattle.fields.specs.Pieces.{Bytes, same_bytes}
use Rattle.fields.proofs.PieceLaws.{bytes_same, same_bytes_lem}
use Rattle.fields.proofs.DigitLaws.{none_some}
use Rattle.rows.specs.Forms.{named}
use Rattle.rows.proofs.FormLaws.{named_is}
use Rattle.model.specs.declared.Grammar.{Grammar}
use Rattle.model.specs.declared.Grammar.TheVariants.{Circuit, Schedule}
use Rattle.model.specs.declared.Word.{Word}
use Rattle.model.specs.declared.Word.TheVariants.{In, Const, Neg, Rot, Add, Mul, Out, Enc, Rs, Us, NoWord}
use Rattle.model.specs.Words.{entry, words, has_word}
use Rattle.model.specs.Numbering.{same_word}
use Rattle.model.proofs.Tests.{and_first, and_second}
use Rattle.model.proofs.EveryWord.{each_word, every_word_lem, same_word_lem}
use Rattle.text.specs.Files.{vocabulary}
use Rattle.text.proofs.WordLaws.{word_of_lem}
use Rattle.listings.specs.declared.Levels.{Levels}
use Rattle.listings.specs.declared.Levels.TheVariants.{Falling, Rising}
use Rattle.listings.specs.Listings.{ListedWord, word, ds, word_bytes}
use Rattle.forms.specs.Along.{field_in, ends_field, is_plain}
use Rattle.forms.proofs.WordLaws.{field_short}
use Rattle.words.specs.declared.Spelled.{Spelled}
use Rattle.words.specs.declared.WordRow.{WordRow}
use Rattle.words.specs.Words.{or_no_word, word_in, first_byte, candidate_by, candidate_of, word_if, spelled_at, row_of}
use Rattle.words.specs.Words.{words_of, vocabulary_of, or_none, listed_in, begins_downscale, held_word, row_in, word_found, listed_word, past_word}

-- ---- the only word that can stand at a place, by the first two bytes there
module _ (s : Bytes) (at : ℕ) where
  pub no_bytes : length s - at < 2 → NoWord ≡ candidate_of (drop at s)
  unfolding candidate_of
  no_bytes h = rw (lt-ltb (length (drop at s)) 2 (omega (arith, length-drop at s)))

  module _ (more : 2 ≤ length s - at) where
    by_two : candidate_of (drop at s) ≡ candidate_by (get_or s at 0) (eqb (get_or s (at + 1) 0) 115)
    unfolding candidate_of
    by_two = rw (le-ltb (length (drop at s)) 2 (omega (arith, length-drop at s)))
        (ap₂ (λ (b c : ℕ). candidate_by b (eqb c 115)) (get_or-drop at s 0 0 ∙ ap (λ (n : ℕ). get_or s n 0) here) (get_or-drop at s 1 0))
      where
        here : at + 0 ≡ at
        here = omega arith

    pub by_first : (first : ℕ) (r : Word) → get_or s at 0 ≡ first → r ≡ candidate_by first (eqb (get_or s (at + 1) 0) 115) → r ≡ candidate_of (drop at s)
    by_first first r e q = q ∙ sym (by_two ∙ ap (λ (b : ℕ). candidate_by b (eqb (get_or s (at + 1) 0) 115)) e)

    pub by_second :
        (first : ℕ) (second : Bool) (r : Word) → get_or s at 0 ≡ first → eqb (get_or s (at + 1) 0) 115 ≡ second → r ≡ candidate_by first second →
        r ≡ candidate_of (drop at s)
    by_second first second r e h q = by_first first r e (q ∙ ap (candidate_by first) (sym h))

    pub no_first :
        (get_or s at 0 ≡ first_byte In → ⊥) → (get_or s at 0 ≡ first_byte Const → ⊥) → (get_or s at 0 ≡ first_byte Neg → ⊥) → (get_or s at 0 ≡ first_byte Rot → ⊥) →
        (get_or s at 0 ≡ first_byte Add → ⊥) → (get_or s at 0 ≡ first_byte Mul → ⊥) → (get_or s at 0 ≡ first_byte Out → ⊥) → (get_or s at 0 ≡ first_byte Enc → ⊥) →
        (get_or s at 0 ≡ first_byte Us → ⊥) → NoWord ≡ candidate_of (drop at s)
    no_first i c n r a m o e u =
        sym (by_two ∙ simp (other In i, other Const c, other Neg n, other Rot r, other Add a, other Mul m, other Out o, other Enc e, other Us u))
      where
        other : (w : Word) → (get_or s at 0 ≡ first_byte w → ⊥) → eqb (get_or s at 0) (first_byte w) ≡ false
        other w n = ne_eqb (get_or s at 0) (first_byte w) n

pub ruleset candidate_laws = (rules, no_bytes, by_first, by_second, no_first)

-- ---- a word, if its bytes are the first field
module _ (w : Word) (bytes : Bytes) (is : bytes ≡ (entry w).bytes) where
  pub word_plain : T (is_plain bytes)
  word_plain = rw is (every_word_lem (λ v. is_plain (entry v).bytes) tt w)

  module _ (s : Bytes) (at : ℕ) (r : Bool) (q : r ≡ same_bytes (field_in (drop at s)) bytes) where
    pub not_spelled : r ≡ false → record { word = NoWord; end = at } ≡ spelled_at at (word_if w (drop at s))
    unfolding word_if
    not_spelled h = let here : at ≡ at + 0 = omega arith in rw (← is, ← q, h) (ap (λ (n : ℕ). record { word = NoWord; end = n }) here)

    pub is_spelled : r ≡ true → record { word = w; end = at + length bytes } ≡ spelled_at at (word_if w (drop at s))
    unfolding word_if
    is_spelled h = rw (← is, ← q, h) (ap (λ (b : Bytes). record { word = w; end = at + length b }) is)

pub ruleset spelling_laws = (rules, not-false, not-true, word_plain, not_spelled, is_spelled)

-- its bytes, as the code has them
pub bytes_of : (w v : Word) (bytes : Bytes) → w ≡ v → bytes ≡ (entry v).bytes → bytes ≡ (entry w).bytes
bytes_of w v bytes e b = b ∙ ap (λ (u : Word). (entry u).bytes) (sym e)

pub no_word : (w : Word) (at : ℕ) (t : Bytes) → w ≡ NoWord → record { word = w; end = at } ≡ spelled_at at (word_if w t)
unfolding word_if
no_word w at t e =
    let here : at ≡ at + 0 = omega arith in
    rw e (ap (λ (n : ℕ). record { word = NoWord; end = n }) here ∙ sym (ap (spelled_at at) (go (same_bytes (field_in t) []))))
  where
    go : (b : Bool) → cond b NoWord NoWord ≡ NoWord
    go true = refl
    go false = refl

pub ruleset bytes_laws = (rules, bytes_of, no_word)

-- a field's bytes are the first of the text
field_first : (t : Bytes) (i : ℕ) → i < length (field_in t) → get_or (field_in t) i 0 ≡ get_or t i 0
unfolding field_in
field_first [] i h = absurd (omega arith)
field_first (b ∷ bs) i h = go (ends_field (b ∷ bs)) i h (field_first bs)
  where
    go : (e : Bool) (i : ℕ) → i < length (cond e [] (b ∷ field_in bs)) → ((j : ℕ) → j < length (field_in bs) → get_or (field_in bs) j 0 ≡ get_or bs j 0)
        → get_or (cond e [] (b ∷ field_in bs)) i 0 ≡ get_or (b ∷ bs) i 0
    go true i h ih = absurd (omega arith)
    go false zero h ih = refl
    go false (suc i) h ih = ih i (omega arith)

-- a text that begins with a word has it for its candidate: one test over the table
abbrev leads : Word → Bool
leads w = leb 2 (length (entry w).bytes) && same_word (candidate_by (first_byte w) (eqb (get_or (entry w).bytes 1 0) 115)) w

candidate_text : (t : Bytes) (w : Word) → T (has_word Schedule w) → field_in t ≡ (entry w).bytes → candidate_of t ≡ w
unfolding candidate_of
candidate_text t w any e =
    let led = word_of_lem Schedule leads tt w any in
    let two = leb→le 2 (length (entry w).bytes) (and_first (leb 2 (length (entry w).bytes)) _ led) in
    let same = ap length e in
    let first : get_or t 0 0 ≡ first_byte w = sym (field_first t 0 (omega arith)) ∙ ap (λ (f : Bytes). get_or f 0 0) e in
    let second : get_or t 1 0 ≡ get_or (entry w).bytes 1 0 = sym (field_first t 1 (omega arith)) ∙ ap (λ (f : Bytes). get_or f 1 0) e in
    rw (le-ltb (length t) 2 (omega (arith, field_short t))) (ap₂ (λ (b c : ℕ). candidate_by b (eqb c 115)) first second)
    ∙ same_word_lem (candidate_by (first_byte w) (eqb (get_or (entry w).bytes 1 0) 115)) w (and_second (leb 2 (length (entry w).bytes)) _ led)

-- what is named is a word
named_any : (f : Bytes) (w : Word) → named vocabulary words f ≡ some w → T (has_word Schedule w)
unfolding named same_bytes
named_any f w e = go (has_word Schedule w) (every_word_lem (λ v. has_word Schedule v || same_word v NoWord) tt w)
  where
    go : (b : Bool) → T (b || same_word w NoWord) → T b
    go true t = tt
    go false t =
        let none_named : f ≡ [] = sym (named_is vocabulary words f e) ∙ ap (λ (v : Word). (entry v).bytes) (same_word_lem w NoWord t) in
        none_some (ap (named vocabulary words) (sym none_named) ∙ e)

-- the bytes of a word name it, and none name no word
named_itself : (w : Word) → or_no_word (named vocabulary words (entry w).bytes) ≡ w
unfolding named same_bytes
named_itself w =
    same_word_lem (or_no_word (named vocabulary words (entry w).bytes)) w
    (every_word_lem (λ v. same_word (or_no_word (named vocabulary words (entry v).bytes)) v) tt w)

-- a text's first field is its candidate or none of the words
candidate_word : (t : Bytes) → word_if (candidate_of t) t ≡ word_in t
unfolding word_if word_in
candidate_word t = go (same_bytes (field_in t) (entry (candidate_of t)).bytes) refl
  where
    other : (o : Option Word) → named vocabulary words (field_in t) ≡ o → same_bytes (field_in t) (entry (candidate_of t)).bytes ≡ false → NoWord ≡ or_no_word o
    other none e h = refl
    other (some v) e h =
        let text = sym (named_is vocabulary words (field_in t) e) in
        let is = candidate_text t v (named_any (field_in t) v e) text in
        let same : same_bytes (entry v).bytes (entry v).bytes ≡ false = sym (ap₂ (λ (f : Bytes) (w : Word). same_bytes f (entry w).bytes) text is) ∙ h in
        absurd (subst T same (bytes_same (entry v).bytes))

    go : (b : Bool) → same_bytes (field_in t) (entry (candidate_of t)).bytes ≡ b → cond b (candidate_of t) NoWord ≡ or_no_word (named vocabulary words (field_in t))
    go true h =
        let text = same_bytes_lem (field_in t) (entry (candidate_of t)).bytes (subst T (sym h) tt) in
        sym (ap (λ (f : Bytes). or_no_word (named vocabulary words f)) text ∙ named_itself (candidate_of t))
    go false h = other (named vocabulary words (field_in t)) refl h

-- ---- the words of a file that counts levels so
pub named_listed : (levels : Levels) (ws : List Word) (f : Bytes) → named (vocabulary_of levels) (map word ws) f ≡ Option.map word (named vocabulary ws f)
unfolding named
named_listed levels [] f = refl
named_listed levels (w ∷ ws) f = go (same_bytes f (entry w).bytes) (named vocabulary ws f) (named_listed levels ws f)
  where
    go : (b : Bool) {o : Option ListedWord} (p : Option Word) → o ≡ Option.map word p → cond b (some (word w)) o ≡ Option.map word (cond b (some w) p)
    go true p e = refl
    go false p e = e

-- where the words fail, the one after them
or_else : Option ListedWord → Option ListedWord → Option ListedWord
or_else none more = more
or_else (some v) more = some v

named_append : (levels : Levels) (ws more : List ListedWord) (f : Bytes)
    → named (vocabulary_of levels) (ws ++ more) f ≡ or_else (named (vocabulary_of levels) ws f) (named (vocabulary_of levels) more f)
unfolding named or_else
named_append levels [] more f = refl
named_append levels (w ∷ ws) more f = go (same_bytes f (word_bytes w)) (named (vocabulary_of levels) ws f) (named_append levels ws more f)
  where
    go : (b : Bool) {o : Option ListedWord} (p : Option ListedWord) → o ≡ or_else p (named (vocabulary_of levels) more f)
        → cond b (some w) o ≡ or_else (cond b (some w) p) (named (vocabulary_of levels) more f)
    go true p e = refl
    go false p e = e

named_rising : (f : Bytes) → named (vocabulary_of Rising) (words_of Rising) f
    ≡ or_else (Option.map word (named vocabulary words f)) (cond (same_bytes f (word_bytes ds)) (some ds) none)
unfolding named
named_rising f =
    named_append Rising (map word words) (ds ∷ []) f
    ∙ ap (λ (o : Option ListedWord). or_else o (cond (same_bytes f (word_bytes ds)) (some ds) none)) (named_listed Rising words f)

or_none_lem : (o : Option Word) → or_none (Option.map word o) ≡ word (or_no_word o)
or_none_lem none = refl
or_none_lem (some w) = refl

-- the word is `ds`, which is no word of the table, or the word of the table
downscale_none : (t : Bytes) → same_bytes (field_in t) (word_bytes ds) ≡ true → named vocabulary words (field_in t) ≡ none
unfolding named same_bytes
downscale_none t e = ap (named vocabulary words) (same_bytes_lem (field_in t) (word_bytes ds) (subst T (sym e) tt))

pub listed_downscale : (levels : Levels) (t : Bytes) → begins_downscale levels t ≡ true → listed_in levels t ≡ ds
unfolding listed_in begins_downscale or_else
listed_downscale Falling t e = absurd (let z : ◌≡◌ {A = ℕ} 0 1 = cc in omega arith)
listed_downscale Rising t e = ap or_none (named_rising (field_in t)) ∙ rw (downscale_none t e, e)

pub listed_word_lem : (levels : Levels) (t : Bytes) → begins_downscale levels t ≡ false → listed_in levels t ≡ word (word_in t)
unfolding listed_in begins_downscale word_in or_else
listed_word_lem Falling t e = ap or_none (named_listed Falling words (field_in t)) ∙ or_none_lem (named vocabulary words (field_in t))
listed_word_lem Rising t e = ap or_none (named_rising (field_in t)) ∙ rw e (go (named vocabulary words (field_in t)))
  where
    go : (o : Option Word) → or_none (or_else (Option.map word o) none) ≡ word (or_no_word o)
    go none = refl
    go (some w) = refl

-- whether it is a circuit's word
pub listed_kept : (levels : Levels) (t : Bytes) → has_word Circuit (word_in t) ≡ has_word Circuit (held_word (listed_in levels t))
unfolding begins_downscale word_in
listed_kept levels t = go (begins_downscale levels t) refl
  where
    none_kept : (levels : Levels) → begins_downscale levels t ≡ true → word_in t ≡ NoWord
    none_kept Falling e = absurd (let z : ◌≡◌ {A = ℕ} 0 1 = cc in omega arith)
    none_kept Rising e = ap or_no_word (downscale_none t e)

    go : (b : Bool) → begins_downscale levels t ≡ b → has_word Circuit (word_in t) ≡ has_word Circuit (held_word (listed_in levels t))
    go true e = ap (has_word Circuit) (none_kept levels e) ∙ sym (ap (λ (v : ListedWord). has_word Circuit (held_word v)) (listed_downscale levels t e))
    go false e = sym (ap (λ (v : ListedWord). has_word Circuit (held_word v)) (listed_word_lem levels t e))

-- ---- the word as the code finds it
module _ (levels : Levels) (s : Bytes) (at : ℕ) (b : Bool) (q : b ≡ begins_downscale levels (drop at s)) where
  abbrev t : Bytes
  t = drop at s

  pub downscale_found : b ≡ true → (r : WordRow) → r ≡ row_in ds → record { word = Rs; row = r; end = at + 2 } ≡ word_found (listed_in levels t) (past_word at (listed_in levels t))
  downscale_found h r e =
      ap (λ (x : WordRow). record { word = Rs; row = x; end = at + 2 }) e
      ∙ sym (ap (λ (v : ListedWord). word_found v (past_word at v)) (listed_downscale levels t (sym q ∙ h)))

  pub word_found_lem :
      b ≡ false → (w : Word) → w ≡ candidate_of t → (f : Spelled) → f ≡ spelled_at at (word_if w t) → (r : WordRow) → r ≡ row_of f.word →
      record { word = f.word; row = r; end = f.end } ≡ word_found (listed_in levels t) (past_word at (listed_in levels t))
  word_found_lem h w c f e r k =
      let spelled : f ≡ spelled_at at (word_in t) = e ∙ ap (λ (v : Word). spelled_at at (word_if v t)) c ∙ ap (spelled_at at) (candidate_word t) in
      ap (λ (x : WordRow). record { word = f.word; row = x; end = f.end }) k
      ∙ ap (λ (g : Spelled). record { word = g.word; row = row_of g.word; end = g.end }) spelled
      ∙ sym (ap (λ (v : ListedWord). word_found v (past_word at v)) (listed_word_lem levels t (sym q ∙ h)))

pub falling_none : (levels : Levels) (t : Bytes) → levels ≡ Falling → false ≡ begins_downscale levels t
unfolding begins_downscale
falling_none levels t e = rw e

pub rising_downscale : (levels : Levels) (t : Bytes) (r : Bool) → levels ≡ Rising → r ≡ same_bytes (field_in t) (word_bytes ds) → r ≡ begins_downscale levels t
unfolding begins_downscale
rising_downscale levels t r e q = rw e q

-- what the code has is what it was found as
pub found_listed : (v : ListedWord) (end : ℕ) → listed_word (word_found v end) ≡ v
found_listed (word w) end = each_word (λ u. listed_word (word_found (word u) end)) word refl w
found_listed ds end = refl

-- ---- a word of a file that was found is named by the first field
pub word_named : (levels : Levels) (g : Grammar) (t : Bytes) (v : ListedWord) → v ≡ listed_in levels t → T (has_word g (held_word v))
    → named (vocabulary_of levels) (words_of levels) (field_in t) ≡ some v
unfolding listed_in
word_named levels g t v is has = go (named (vocabulary_of levels) (words_of levels) (field_in t)) refl (rw is at has)
  where
    none_has : (g : Grammar) → T (has_word g NoWord) → ⊥
    none_has Circuit u = u
    none_has Schedule u = u

    go : (o : Option ListedWord) → named (vocabulary_of levels) (words_of levels) (field_in t) ≡ o → T (has_word g (held_word (or_none o))) → o ≡ some v
    go none e u = absurd (none_has g u)
    go (some u) e h = ap some (sym (is ∙ ap or_none e))

pub field_named : (levels : Levels) (g : Grammar) (t : Bytes) (v : ListedWord) → v ≡ listed_in levels t → T (has_word g (held_word v)) → field_in t ≡ word_bytes v
field_named levels g t v is has = sym (named_is (vocabulary_of levels) (words_of levels) (field_in t) (word_named levels g t v is has))

pub ruleset found_laws = (rules, not-true, not-false, falling_none, rising_downscale, downscale_found, word_found_lem)
