-- A word and its fields: what one number more adds to the text, and what closes a line. Assumes nothing.
use Prim.Native.Nat.{ℕ, ◌+◌, ◌<◌}
use mathlib.Core.List.{List, [], ◌∷◌, ◌++◌, map, append_assoc}
use mathlib.Core.Path.{◌≡◌, refl, sym, ap, ◌∙◌}
use lib.IntN.{ℤ}
use lib.ListN.{length, get_or, take, drop, take-append-drop}
use lib.Seq.{take-length}
use mir.Syntax.{w16}
use mir.Val.{SFits}
use Rattle.std.proofs.lemmas.List.{append-nil, map-append, take_more}
use Rattle.fields.specs.Pieces.{Bytes, tab, line_feed, join}
use Rattle.fields.specs.Numbers.{decimal, amount_text}
use Rattle.rows.specs.Lines.{text_of}
use Rattle.spelling.proofs.Signs.{held}
use Rattle.spelling.proofs.Amounts.{amount_held}

-- ---- a word and its fields: each with a tab before it
abbrev pub tabbed : List Bytes → Bytes
tabbed [] = []
tabbed (p ∷ ps) = tab ∷ (p ++ tabbed ps)

joined : (w : Bytes) (ps : List Bytes) → join tab (w ∷ ps) ≡ w ++ tabbed ps
unfolding join
joined w [] = sym (append-nil w)
joined w (p ∷ ps) = ap (λ (x : Bytes). w ++ (tab ∷ x)) (joined p ps)

both_tabbed : (ps qs : List Bytes) → tabbed (ps ++ qs) ≡ tabbed ps ++ tabbed qs
both_tabbed [] qs = refl
both_tabbed (p ∷ ps) qs = ap (λ (x : Bytes). tab ∷ x) (rw (both_tabbed ps qs) (sym (append_assoc p (tabbed ps) (tabbed qs))))

-- fields more
pub more_fields : (w : Bytes) (ps qs : List Bytes) → join tab (w ∷ (ps ++ qs)) ≡ join tab (w ∷ ps) ++ tabbed qs
more_fields w ps qs = rw (joined w (ps ++ qs), joined w ps, both_tabbed ps qs) (sym (append_assoc w (tabbed ps) (tabbed qs)))

-- ---- a word and the first numbers of a list
abbrev pub numbered : Bytes → List ℕ → Bytes
numbered w ns = join tab (w ∷ map decimal ns)

-- the word, and then the fields
pub word_first : (w : Bytes) (ns : List ℕ) → numbered w ns ≡ w ++ tabbed (map decimal ns)
word_first w ns = joined w (map decimal ns)

pub numbered_none : (w : Bytes) → numbered w [] ≡ w
unfolding join
numbered_none w = refl

pub numbered_more : (w : Bytes) (ns : List ℕ) (i : ℕ) → i < length ns → numbered w (take (i + 1) ns) ≡ numbered w (take i ns) ++ (tab ∷ decimal (get_or ns i 0))
numbered_more w ns i h =
    let one : List ℕ = get_or ns i 0 ∷ [] in
    rw (take_more ns i 0 h, map-append decimal (take i ns) one, more_fields w (map decimal (take i ns)) (map decimal one)) (simp append-nil)

pub numbered_all : (w : Bytes) (ns : List ℕ) (i : ℕ) → i ≡ length ns → numbered w ns ≡ numbered w (take i ns)
numbered_all w ns i e = ap (numbered w) (sym (rw e (take-length ns)))

-- the numbers after the next one
abbrev pub numbers_left : List ℕ → ℕ → Bytes
numbers_left ns i = tabbed (map decimal (drop (i + 1) ns))

pub numbered_next : (w : Bytes) (ns : List ℕ) (i : ℕ) → i < length ns →
    numbered w ns ≡ numbered w (take i ns) ++ ((tab ∷ decimal (get_or ns i 0)) ++ numbers_left ns i)
numbered_next w ns i h =
    let parts : ns ≡ take (i + 1) ns ++ drop (i + 1) ns = sym (take-append-drop (i + 1) ns) in
    ap (numbered w) parts
    ∙ rw (map-append decimal (take (i + 1) ns) (drop (i + 1) ns), more_fields w (map decimal (take (i + 1) ns)) (map decimal (drop (i + 1) ns)), numbered_more w ns i h)
    (append_assoc (numbered w (take i ns)) (tab ∷ decimal (get_or ns i 0)) (numbers_left ns i))

-- ---- an amount after numbers
pub amount_more :
    (w : Bytes) (ns : List ℕ) (z : ℤ) → SFits w16 z →
    join tab (w ∷ (map decimal ns ++ (amount_text z ∷ []))) ≡ numbered w ns ++ (tab ∷ amount_text (held z))
amount_more w ns z h = rw (more_fields w (map decimal ns) (amount_text z ∷ []), amount_held z h) (simp append-nil)

-- ---- the line feed
pub line_end : (p : Bytes) → text_of (p ∷ []) ≡ p ++ (line_feed ∷ [])
unfolding text_of
line_end p = refl
