-- Two kinds of file, where each line gives the row of the one under a function of the row of the other, read every text to the same rows under it.
-- Assumes nothing.
use Prim.Native.Nat.{ℕ}
use mathlib.Core.Path.{◌≡◌, refl, sym, ap, ◌∙◌}
use mathlib.Core.List.{List, [], ◌∷◌, ◌++◌, map, map-append}
use lib.ListN.{length, length-map}
use Rattle.fields.specs.Pieces.{Bytes}
use Rattle.rows.specs.Lines.{Lines, lines, lines_of}
use Rattle.rows.specs.Rows.{place_of, Judgement, good, bad, Reading, read, refused, onward, at, Format, File, read_header, read_line, rows_from, ended, read_lines, read_file}

module _ {A B : Type 0} (m : A → B) where
  abbrev pub mapped_judgement : Judgement A → Judgement B
  mapped_judgement (good x) = good (m x)
  mapped_judgement (bad n) = bad n

  abbrev mapped_rows : Reading (List A) → Reading (List B)
  mapped_rows (read xs) = read (map m xs)
  mapped_rows (refused n place) = refused n place

module _ {H A B : Type 0} (m : A → B) where
  abbrev pub mapped_reading : Reading (File H A) → Reading (File H B)
  mapped_reading (read file) = read (record { header = file.header; lines = map m file.lines })
  mapped_reading (refused n place) = refused n place

module _ {H A B : Type 0} (f : Format H A) (g : Format H B) (m : A → B) where
  pub record Maps : Type 0 where
    pub header : (p : Bytes) → read_header g p ≡ read_header f p
    pub line : (h : H) (done : List A) (p : Bytes) → read_line g h (map m done) p ≡ mapped_judgement m (read_line f h done p)
    pub end : (h : H) (done : List A) (rest : Bytes) → ended g h (map m done) rest ≡ mapped_reading m (ended f h done rest)

  module _ (maps : Maps) where
    rows_mapped : (h : H) (done : List A) (ps : List Bytes) → rows_from g h (map m done) ps ≡ mapped_rows m (rows_from f h done ps)
    unfolding rows_from
    rows_mapped h done [] = refl
    rows_mapped h done (p ∷ ps) =
        ap (λ (j : Judgement B). at (place_of (length (map m done))) j (λ y. rows_from g h (map m done ++ (y ∷ [])) ps)) (maps.line h done p)
        ∙ go (read_line f h done p) (λ x. rows_mapped h (done ++ (x ∷ [])) ps)
      where
        go : (j : Judgement A) → ((x : A) → rows_from g h (map m (done ++ (x ∷ []))) ps ≡ mapped_rows m (rows_from f h (done ++ (x ∷ [])) ps))
            → at (place_of (length (map m done))) (mapped_judgement m j) (λ y. rows_from g h (map m done ++ (y ∷ [])) ps)
            ≡ mapped_rows m (at (place_of (length done)) j (λ x. rows_from f h (done ++ (x ∷ [])) ps))
        go (good x) ih = ap (λ (l : List B). rows_from g h l ps) (sym (map-append m done (x ∷ []))) ∙ ih x
        go (bad n) ih = ap (λ (k : ℕ). refused n (place_of k)) (length-map done m)

    after_mapped : (h : H) (ps : List Bytes) (rest : Bytes)
        → onward (rows_from g h [] ps) (λ rows. ended g h rows rest) ≡ mapped_reading m (onward (rows_from f h [] ps) (λ rows. ended f h rows rest))
    after_mapped h ps rest = ap (λ (r : Reading (List B)). onward r (λ rows. ended g h rows rest)) (rows_mapped h [] ps) ∙ go (rows_from f h [] ps)
      where
        go : (r : Reading (List A)) → onward (mapped_rows m r) (λ rows. ended g h rows rest) ≡ mapped_reading m (onward r (λ rows. ended f h rows rest))
        go (read rows) = maps.end h rows rest
        go (refused n place) = refl

    lines_mapped : (l : Lines) → read_lines g l ≡ mapped_reading m (read_lines f l)
    unfolding read_lines
    lines_mapped (lines [] rest) = refl
    lines_mapped (lines (p ∷ ps) rest) =
        ap (λ (j : Judgement H). at 1 j (λ h. onward (rows_from g h [] ps) (λ rows. ended g h rows rest))) (maps.header p) ∙ go (read_header f p)
      where
        go : (j : Judgement H) → at 1 j (λ h. onward (rows_from g h [] ps) (λ rows. ended g h rows rest))
            ≡ mapped_reading m (at 1 j (λ h. onward (rows_from f h [] ps) (λ rows. ended f h rows rest)))
        go (good h) = after_mapped h ps rest
        go (bad n) = refl

    pub reads_mapped : (t : Bytes) → read_file g t ≡ mapped_reading m (read_file f t)
    unfolding read_file
    reads_mapped t = lines_mapped (lines_of t)
