-- A file and the table that holds it: each is the other's. Assumes nothing.
use Prim.Native.Nat.{ℕ, zero, suc, ◌-◌, ◌≤◌}
use native.Mathlib.Omega.{arith}
use mathlib.Core.Path.{◌≡◌, refl, sym, ap, ◌∙◌, subst}
use mathlib.Core.List.{List, [], ◌∷◌, ◌++◌}
use lib.Dec.{T, leb→le, le→leb}
use lib.ListN.{length, get_or, take, replicate, length-append, length-replicate}
use lib.Seq.{length-take-le}
use Rattle.model.specs.declared.Grammar.{Grammar}
use Rattle.model.specs.declared.Grammar.TheVariants.{Circuit, Schedule}
use Rattle.model.specs.declared.Line.{Line}
use Rattle.model.specs.declared.Line.TheVariants.{Free}
use Rattle.text.specs.Tables.{Table, table_lines, TableFormed, file_of, table_of}
use Rattle.model.specs.Files.{File, limit, well_formed}

lines_held_lem : (xs rest : List Line) → take (length xs) (xs ++ rest) ≡ xs
lines_held_lem [] rest = refl
lines_held_lem (x ∷ xs) rest = ap (λ (l : List Line). x ∷ l) (lines_held_lem xs rest)

free_past : (n i : ℕ) → get_or (replicate n Free) i Free ≡ Free
free_past zero i = refl
free_past (suc n) zero = refl
free_past (suc n) (suc i) = free_past n i

past_free : (xs : List Line) (n i : ℕ) → length xs ≤ i → get_or (xs ++ replicate n Free) i Free ≡ Free
past_free [] n i h = free_past n i
past_free (x ∷ xs) n zero h = absurd (omega arith)
past_free (x ∷ xs) n (suc i) h = past_free xs n i (omega arith)

pub file_table : (f : File) → file_of (table_of f) ≡ f
file_table f = ap (λ (l : List Line). record { header = f.header; lines = l }) (lines_held_lem f.lines (replicate (1792 - length f.lines) Free))

pub limit_most : (g : Grammar) → limit g ≤ 1792
limit_most Circuit = omega arith
limit_most Schedule = omega arith

pub table_formed : (g : Grammar) (f : File) → T (well_formed g f.header f.lines) → length f.lines ≤ limit g → TableFormed g (table_of f)
table_formed g f t few =
    record {
      few = le→leb (length f.lines) (limit g) few;
      room = let most = limit_most g in
          length-append f.lines (replicate (1792 - length f.lines) Free)
          ∙ (let free = length-replicate (1792 - length f.lines) Free in omega arith);
      lines = subst (λ (k : File). T (well_formed g k.header k.lines)) (sym (file_table f)) t;
      rest = λ i h. past_free f.lines (1792 - length f.lines) i (leb→le (length f.lines) i h);
    }

all_free : (l : List Line) → ((i : ℕ) → get_or l i Free ≡ Free) → l ≡ replicate (length l) Free
all_free [] h = refl
all_free (x ∷ l) h = λ i. h 0 i ∷ all_free l (λ i. h (suc i)) i

table_list : (n : ℕ) (l : List Line) → n ≤ length l → ((i : ℕ) → n ≤ i → get_or l i Free ≡ Free) → l ≡ take n l ++ replicate (length l - n) Free
table_list zero l few h = let all : length l ≡ length l - 0 = omega arith in all_free l (λ i. h i (omega arith)) ∙ ap (λ (k : ℕ). replicate k Free) all
table_list (suc n) [] few h = absurd (omega arith)
table_list (suc n) (x ∷ l) few h =
    let less : length l - n ≡ suc (length l) - suc n = omega arith in
    ap (λ (k : List Line). x ∷ k) (table_list n l (omega arith) (λ i b. h (suc i) (omega arith)) ∙ ap (λ (k : ℕ). take n l ++ replicate k Free) less)

pub count_length : (t : Table) → length t.lines ≡ 1792 → t.count ≤ 1792 → length (table_lines t) ≡ t.count
count_length t room most = length-take-le t.count t.lines (omega arith)

pub table_length : (g : Grammar) (t : Table) → TableFormed g t → length (table_lines t) ≡ t.count
table_length g t f =
    let few = leb→le t.count (limit g) f.few in
    let most = limit_most g in
    count_length t f.room (omega arith)

pub table_file : (g : Grammar) (t : Table) → TableFormed g t → t ≡ table_of (file_of t)
table_file g t f =
    let few = leb→le t.count (limit g) f.few in
    let most = limit_most g in
    let whole = f.room in
    let size = table_length g t f in
    let left : length t.lines - t.count ≡ 1792 - length (table_lines t) = omega arith in
    let list : t.lines ≡ table_lines t ++ replicate (1792 - length (table_lines t)) Free =
    table_list t.count t.lines (omega arith) (λ i b. f.rest i (le→leb t.count i b)) ∙ ap (λ (k : ℕ). table_lines t ++ replicate k Free) left in
    λ i. record { header = t.header; lines = list i; count = sym size i }

-- two tables that hold the same file are the same
pub table_same : (g : Grammar) (t u : Table) → TableFormed g t → TableFormed g u → file_of t ≡ file_of u → t ≡ u
table_same g t u f k e = table_file g t f ∙ ap table_of e ∙ sym (table_file g u k)
