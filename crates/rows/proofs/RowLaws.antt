-- Files read as rows: what follows does not change what stands before, what is written is read back, what is read is written so, and which refusals
-- there are. Once for every kind of file. Assumes nothing.
use Prim.{Unit}
use Prim.Native.Nat.{ℕ, suc, ◌+◌, ◌≤◌}
use native.Mathlib.Omega.{arith}
use mathlib.Core.Path.{◌≡◌, refl, sym, ap, ◌∙◌, subst}
use mathlib.Core.Bool.{Bool, true, false, cond, not}
use mathlib.Core.List.{List, [], ◌∷◌, ◌++◌, map, append_assoc, append-nil}
use mathlib.Core.Option.{Option, none, some}
use lib.Dec.{T}
use lib.ListN.{length, length-append}
use Rattle.fields.specs.Pieces.{Bytes, line_feed}
use Rattle.fields.proofs.Each as E
use Rattle.fields.proofs.Each.{Each}
use Rattle.fields.proofs.PieceLaws.{Without}
use Rattle.rows.specs.Forms.{Form}
use Rattle.rows.specs.Lines.{Lines, lines, closed, lines_of}
use Rattle.rows.specs.Rows.{place_of, Judgement, good, bad, Reading, read, refused, Tests, judged, formed, onward, at, Format, File, read_header, read_line, rows_from, ended}
use Rattle.rows.specs.Rows.{read_lines, read_file, file_text}
use Rattle.rows.proofs.Tests.{cond_cases, cond_true, cond_false}
use Rattle.rows.proofs.FormLaws.{LawfulForm}
use Rattle.rows.proofs.LineLaws.{before, bytes_before, glued, before_lines, lines_append, lines_text_lem, closed_text}

-- ---- readings and judgements told apart
pub refused_read : {A P : Type 0} (n place : ℕ) {x : A} → refused n place ≡ read x → P
refused_read n place e = absurd (let z : ◌≡◌ {A = ℕ} 0 1 = cc in omega arith)

pub read_refused : {A P : Type 0} (x : A) {n place : ℕ} → read x ≡ refused n place → P
read_refused x e = absurd (let z : ◌≡◌ {A = ℕ} 0 1 = cc in omega arith)

pub read_is : {A : Type 0} {x y : A} → read x ≡ read y → x ≡ y
read_is e = cc

pub good_is : {A : Type 0} {x y : A} → good x ≡ good y → x ≡ y
good_is e = cc

pub bad_good : {A P : Type 0} (n : ℕ) {y : A} → bad n ≡ good y → P
bad_good n e = absurd (let z : ◌≡◌ {A = ℕ} 0 1 = cc in omega arith)

pub good_bad : {A P : Type 0} (x : A) {n : ℕ} → good x ≡ bad n → P
good_bad x e = absurd (let z : ◌≡◌ {A = ℕ} 0 1 = cc in omega arith)

-- the same refusal, of another reading
moved : {A B : Type 0} {m q n p : ℕ} → ◌≡◌ {A = Reading A} (refused m q) (refused n p) → ◌≡◌ {A = Reading B} (refused m q) (refused n p)
moved {m = m} {q} {n} {p} e = let number : m ≡ n = cc in let place : q ≡ p = cc in λ i. refused (number i) (place i)

-- ---- tests
abbrev pub Passes : Tests → Type 0
Passes [] = Unit {0}
Passes ((n, passes) ∷ more) = T passes × Passes more

-- what a line that came to a row passed
pub record Formed {A : Type 0} (form : Form A) (tests : A → Tests) (p : Bytes) (x : A) : Type 0 where
  pub reads : form.reads p ≡ some x
  pub passes : Passes (tests x)

module _ {A : Type 0} where
  pub judged_passes : (ts : Tests) (x : A) → Passes ts → judged ts x ≡ good x
  judged_passes [] x t = refl
  judged_passes ((n, true) ∷ more) x (t, ts) = judged_passes more x ts
  judged_passes ((n, false) ∷ more) x (t, ts) = absurd t

  record Judged (ts : Tests) (x y : A) : Type 0 where
    passes : Passes ts
    is : x ≡ y

  judged_good : (ts : Tests) (x : A) {y : A} → judged ts x ≡ good y → Judged ts x y
  judged_good [] x e = record { passes = tt; is = good_is e }
  judged_good ((n, true) ∷ more) x e = let j = judged_good more x e in record { passes = (tt, j.passes); is = j.is }
  judged_good ((n, false) ∷ more) x e = bad_good n e

  pub formed_good : (form : Form A) (tests : A → Tests) (p : Bytes) {y : A} → formed (form.reads p) tests ≡ good y → Formed form tests p y
  formed_good form tests p {y} e = go (form.reads p) refl e
    where
      go : (o : Option A) → form.reads p ≡ o → formed o tests ≡ good y → Formed form tests p y
      go none q v = bad_good 1 v
      go (some x) q v = let j = judged_good (tests x) x v in subst (Formed form tests p) j.is (record { reads = q; passes = j.passes })

  pub formed_passes : (form : Form A) (tests : A → Tests) (p : Bytes) (x : A) → form.reads p ≡ some x → Passes (tests x) → formed (form.reads p) tests ≡ good x
  formed_passes form tests p x e t = ap (λ (o : Option A). formed o tests) e ∙ judged_passes (tests x) x t

  -- the number of a refusal is 1 or a test's
  judged_bad : (P : ℕ → Type 0) (ts : Tests) (x : A) {n : ℕ} → Each (λ t. P t.0) ts → judged ts x ≡ bad n → P n
  judged_bad P [] x each e = good_bad x e
  judged_bad P ((m, true) ∷ more) x (E.one p ps) e = judged_bad P more x ps e
  judged_bad P ((m, false) ∷ more) x {n} (E.one p ps) e = let same : m ≡ n = cc in subst P same p

  formed_bad : (P : ℕ → Type 0) (o : Option A) (tests : A → Tests) {n : ℕ} → P 1 → ((x : A) → Each (λ t. P t.0) (tests x)) → formed o tests ≡ bad n → P n
  formed_bad P none tests {n} p each e = let same : 1 ≡ n = cc in subst P same p
  formed_bad P (some x) tests p each e = judged_bad P (tests x) x (each x) e

module _ {H A : Type 0} (f : Format H A) where
  -- ---- part by part: reading more lines is reading them after the rows of those before. All that follows cites this law.
  pub rows_append : (h : H) (done : List A) (ps qs : List Bytes) → rows_from f h done (ps ++ qs) ≡ onward (rows_from f h done ps) (λ d. rows_from f h d qs)
  unfolding rows_from
  rows_append h done [] qs = refl
  rows_append h done (p ∷ ps) qs = go (read_line f h done p) (λ x. rows_append h (done ++ (x ∷ [])) ps qs)
    where
      go : (j : Judgement A) → ((x : A) → rows_from f h (done ++ (x ∷ [])) (ps ++ qs) ≡ onward (rows_from f h (done ++ (x ∷ [])) ps) (λ d. rows_from f h d qs))
          → at (place_of (length done)) j (λ x. rows_from f h (done ++ (x ∷ [])) (ps ++ qs))
          ≡ onward (at (place_of (length done)) j (λ x. rows_from f h (done ++ (x ∷ [])) ps)) (λ d. rows_from f h d qs)
      go (good x) ih = ih x
      go (bad n) ih = refl

  -- one line more
  pub rows_more : (h : H) (ps : List Bytes) (p : Bytes) (qs : List Bytes) {done : List A} → rows_from f h [] ps ≡ read done
      → rows_from f h [] (ps ++ (p ∷ qs)) ≡ at (place_of (length done)) (read_line f h done p) (λ x. rows_from f h (done ++ (x ∷ [])) qs)
  unfolding rows_from
  rows_more h ps p qs e = rows_append h [] ps (p ∷ qs) ∙ ap (λ (r : Reading (List A)). onward r (λ d. rows_from f h d (p ∷ qs))) e

  -- the first line that is refused is the one that is told, at its place
  pub first_refused : (h : H) (ps : List Bytes) (p : Bytes) (qs : List Bytes) {done : List A} {n : ℕ} → rows_from f h [] ps ≡ read done → read_line f h done p ≡ bad n
      → rows_from f h [] (ps ++ (p ∷ qs)) ≡ refused n (place_of (length done))
  first_refused h ps p qs {done} e b =
      rows_more h ps p qs e ∙ ap (λ (j : Judgement A). at (place_of (length done)) j (λ x. rows_from f h (done ++ (x ∷ [])) qs)) b

  -- ---- "files are read top to bottom": a refusal found in closed lines stays, whatever follows them. It is said of closed lines, because more text
  -- can lift the refusal of a missing line.
  unfoldable pub closed_rows : List Bytes → Reading (List A)
  closed_rows [] = read []
  closed_rows (p ∷ ps) = at 1 (read_header f p) (λ h. rows_from f h [] ps)

  rows_stay : (h : H) (ps qs : List Bytes) (rest : Bytes) {n place : ℕ} → rows_from f h [] ps ≡ refused n place
      → onward (rows_from f h [] (ps ++ qs)) (λ rows. ended f h rows rest) ≡ refused n place
  rows_stay h ps qs rest e =
      ap (λ (r : Reading (List A)). onward r (λ rows. ended f h rows rest)) (rows_append h [] ps qs ∙ ap (λ (r : Reading (List A)). onward r (λ d. rows_from f h d qs)) e)

  lines_stay : (ps : List Bytes) (l : Lines) {n place : ℕ} → closed_rows ps ≡ refused n place → read_lines f (before ps l) ≡ refused n place
  unfolding closed_rows read_lines
  lines_stay [] l e = read_refused [] e
  lines_stay (p ∷ ps) (lines qs rest) {n} {place} e = ap (read_lines f) (before_lines (p ∷ ps) qs rest) ∙ go (read_header f p) e
    where
      go : (j : Judgement H) → at 1 j (λ h. rows_from f h [] ps) ≡ refused n place
          → at 1 j (λ h. onward (rows_from f h [] (ps ++ qs)) (λ rows. ended f h rows rest)) ≡ refused n place
      go (good h) v = rows_stay h ps qs rest v
      go (bad m) v = moved v

  pub stays : (s t : Bytes) (ps : List Bytes) {n place : ℕ} → lines_of s ≡ lines ps [] → closed_rows ps ≡ refused n place → read_file f (s ++ t) ≡ refused n place
  unfolding read_file
  stays s t ps e r = ap (read_lines f) (lines_append s t ∙ ap (λ (l : Lines). glued l (lines_of t)) e) ∙ lines_stay ps (lines_of t) r

  -- where no line can be missing, every refusal of a closed text is one of its lines
  module _ (never : (h : H) (rows : List A) → T (f.whole h rows)) where
    ended_read : (h : H) (rows : List A) → ended f h rows [] ≡ read (record { header = h; lines = rows })
    unfolding ended
    ended_read h rows = cond_true (f.whole h rows) _ _ (never h rows)

    pub closed_refused : (p : Bytes) (ps : List Bytes) {n place : ℕ} → read_lines f (lines (p ∷ ps) []) ≡ refused n place → closed_rows (p ∷ ps) ≡ refused n place
    unfolding closed_rows read_lines
    closed_refused p ps {n} {place} e = go (read_header f p) e
      where
        body : (h : H) (r : Reading (List A)) → onward r (λ rows. ended f h rows []) ≡ refused n place → r ≡ refused n place
        body h (read rows) v = read_refused (record { header = h; lines = rows }) (sym (ended_read h rows) ∙ v)
        body h (refused m q) v = moved v

        go : (j : Judgement H) → at 1 j (λ h. onward (rows_from f h [] ps) (λ rows. ended f h rows [])) ≡ refused n place → at 1 j (λ h. rows_from f h [] ps) ≡ refused n place
        go (good h) v = body h (rows_from f h [] ps) v
        go (bad m) v = moved v

  -- ---- the first bytes of a text decide its reading where, after the closed lines among them, what is left of them decides
  abbrev pub after_rows : H → List A → Lines → Reading (File H A)
  after_rows h done (lines ps rest) = onward (rows_from f h done ps) (λ rows. ended f h rows rest)

  pub after_before : (h : H) (done : List A) (ps : List Bytes) (l : Lines) → after_rows h done (before ps l) ≡ onward (rows_from f h done ps) (λ rows. after_rows h rows l)
  after_before h done ps (lines qs rest) =
      ap (after_rows h done) (before_lines ps qs rest) ∙ ap (λ (r : Reading (List A)). onward r (λ rows. ended f h rows rest)) (rows_append h done ps qs) ∙ go (rows_from f h done ps)
    where
      go : (r : Reading (List A)) → onward (onward r (λ d. rows_from f h d qs)) (λ rows. ended f h rows rest)
          ≡ onward r (λ d. onward (rows_from f h d qs) (λ rows. ended f h rows rest))
      go (read rows) = refl
      go (refused n place) = refl

  lines_after : (p : Bytes) (l : Lines) → read_lines f (closed p l) ≡ at 1 (read_header f p) (λ h. after_rows h [] l)
  unfolding read_lines
  lines_after p (lines ps rest) = refl

  lines_decide : (qs : List Bytes) (rest : Bytes) (more : Lines) → (qs ≡ [] → read_lines f (bytes_before rest more) ≡ refused 1 1)
      → ((p : Bytes) (ps : List Bytes) (h : H) (rows : List A) → qs ≡ p ∷ ps → read_header f p ≡ good h → rows_from f h [] ps ≡ read rows
      → after_rows h rows (bytes_before rest more) ≡ ended f h rows rest)
      → read_lines f (glued (lines qs rest) more) ≡ read_lines f (lines qs rest)
  unfolding read_lines rows_from
  lines_decide [] rest more first later = first refl
  lines_decide (p ∷ ps) rest more first later =
      lines_after p (before ps (bytes_before rest more)) ∙ go (read_header f p) refl
    where
      body : (h : H) → read_header f p ≡ good h → (r : Reading (List A)) → rows_from f h [] ps ≡ r
          → onward r (λ rows. after_rows h rows (bytes_before rest more)) ≡ onward r (λ rows. ended f h rows rest)
      body h q (read rows) u = later p ps h rows refl q u
      body h q (refused n place) u = refl

      go : (j : Judgement H) → read_header f p ≡ j
          → at 1 j (λ h. after_rows h [] (before ps (bytes_before rest more))) ≡ at 1 j (λ h. onward (rows_from f h [] ps) (λ rows. ended f h rows rest))
      go (good h) q = after_before h [] ps (bytes_before rest more) ∙ body h q (rows_from f h [] ps) refl
      go (bad n) q = refl

  pub first_decide : (s t : Bytes) {qs : List Bytes} {rest : Bytes} → lines_of s ≡ lines qs rest → (qs ≡ [] → read_lines f (bytes_before rest (lines_of t)) ≡ refused 1 1)
      → ((p : Bytes) (ps : List Bytes) (h : H) (rows : List A) → qs ≡ p ∷ ps → read_header f p ≡ good h → rows_from f h [] ps ≡ read rows
      → after_rows h rows (bytes_before rest (lines_of t)) ≡ ended f h rows rest)
      → read_file f (s ++ t) ≡ read_file f s
  unfolding read_file
  first_decide s t {qs} {rest} e first later =
      ap (read_lines f) (lines_append s t ∙ ap (λ (l : Lines). glued l (lines_of t)) e) ∙ lines_decide qs rest (lines_of t) first later ∙ ap (read_lines f) (sym e)

  -- ---- a line that may follow the rows before it, and a file of such lines
  pub record Follows (h : H) (done : List A) (x : A) : Type 0 where
    pub room : T (not (f.too_many h done (f.line.text x)))
    pub passes : Passes (f.line_tests h done x)

  pub data RowsFormed (h : H) : List A → List A → Type 0 where
    no_row : {done : List A} → RowsFormed h done []
    row : {done : List A} {x : A} {xs : List A} → Follows h done x → RowsFormed h (done ++ (x ∷ [])) xs → RowsFormed h done (x ∷ xs)

  pub record FileFormed (file : File H A) : Type 0 where
    pub header : Passes (f.header_tests file.header)
    pub rows : RowsFormed file.header [] file.lines
    pub whole : T (f.whole file.header file.lines)

  -- ---- inverse: a lawful format is one whose two forms are
  pub record LawfulFormat : Type 0 where
    pub header : LawfulForm f.header
    pub line : LawfulForm f.line

  -- it reads back what passes
  pub record ReadsBack : Type 0 where
    pub header : (h : H) → Passes (f.header_tests h) → f.header.reads (f.header.text h) ≡ some h
    pub line : (h : H) (done : List A) (x : A) → Passes (f.header_tests h) → Follows h done x → f.line.reads (f.line.text x) ≡ some x

  -- the lines of a file's text
  module _ (law : LawfulFormat) where
    texts_closed : (xs : List A) → Each (Without line_feed) (map f.line.text xs)
    texts_closed [] = E.none
    texts_closed (x ∷ xs) = E.one (law.line.closed x) (texts_closed xs)

    pub file_lines : (file : File H A) → lines_of (file_text f.header f.line file) ≡ lines (f.header.text file.header ∷ map f.line.text file.lines) []
    unfolding file_text
    file_lines file = lines_text_lem (E.one (law.header.closed file.header) (texts_closed file.lines))

  -- ---- written, then read
  module _ (law : LawfulFormat) (back : ReadsBack) where
    pub line_written_read : (h : H) (done : List A) (x : A) → Passes (f.header_tests h) → Follows h done x → read_line f h done (f.line.text x) ≡ good x
    unfolding read_line
    line_written_read h done x t n =
        cond_false (f.too_many h done (f.line.text x)) _ _ n.room
        ∙ formed_passes f.line (f.line_tests h done) (f.line.text x) x (back.line h done x t n) n.passes

    rows_written_read : {h : H} {done xs : List A} → Passes (f.header_tests h) → RowsFormed h done xs → rows_from f h done (map f.line.text xs) ≡ read (done ++ xs)
    unfolding rows_from
    rows_written_read {h} {done} t no_row = ap read (sym (append-nil done))
    rows_written_read {h} {done} t (row {x = x} {xs = xs} n more) =
        ap (λ (j : Judgement A). at (place_of (length done)) j (λ y. rows_from f h (done ++ (y ∷ [])) (map f.line.text xs))) (line_written_read h done x t n)
        ∙ rows_written_read t more ∙ ap read (append_assoc done (x ∷ []) xs)

    pub file_written_read : (file : File H A) → FileFormed file → read_file f (file_text f.header f.line file) ≡ read file
    unfolding read_file read_lines ended
    file_written_read file formed =
        let h = file.header in
        ap (read_lines f) (file_lines law file)
        ∙ ap (λ (j : Judgement H). at 1 j (λ h. onward (rows_from f h [] (map f.line.text file.lines)) (λ rows. ended f h rows [])))
        (formed_passes f.header f.header_tests (f.header.text h) h (back.header h formed.header) formed.header)
        ∙ ap (λ (r : Reading (List A)). onward r (λ rows. ended f h rows [])) (rows_written_read formed.header formed.rows)
        ∙ cond_true (f.whole h file.lines) _ _ formed.whole

  -- ---- read, then written
  pub record LineBack (h : H) (done : List A) (p : Bytes) (x : A) : Type 0 where
    pub follows : Follows h done x
    pub written : f.line.text x ≡ p

  pub record HeaderBack (p : Bytes) (h : H) : Type 0 where
    pub passes : Passes (f.header_tests h)
    pub written : f.header.text h ≡ p

  pub record RowsBack (h : H) (done : List A) (ps : List Bytes) (all : List A) : Type 0 where
    pub rows : List A
    pub are : done ++ rows ≡ all
    pub formed : RowsFormed h done rows
    pub written : map f.line.text rows ≡ ps

  pub record Accepted (text : Bytes) (file : File H A) : Type 0 where
    pub formed : FileFormed file
    pub written : file_text f.header f.line file ≡ text

  module _ (law : LawfulFormat) where
    pub line_read_written : (h : H) (done : List A) (p : Bytes) {x : A} → read_line f h done p ≡ good x → LineBack h done p x
    unfolding read_line
    line_read_written h done p {x} e =
        cond_cases (λ j. j ≡ good x → LineBack h done p x) (f.too_many h done p) (bad 3) (formed (f.line.reads p) (f.line_tests h done)) (λ t v. bad_good 3 v)
        (λ t v. back t (formed_good f.line (f.line_tests h done) p v)) e
      where
        back : T (not (f.too_many h done p)) → Formed f.line (f.line_tests h done) p x → LineBack h done p x
        back t b =
            let is = law.line.written p x b.reads in
            record { follows = record { room = subst (λ (s : Bytes). T (not (f.too_many h done s))) (sym is) t; passes = b.passes }; written = is }

    pub header_read_written : (p : Bytes) {h : H} → read_header f p ≡ good h → HeaderBack p h
    header_read_written p {h} e =
        let b = formed_good f.header f.header_tests p e in
        record { passes = b.passes; written = law.header.written p h b.reads }

    pub rows_read_written : (h : H) (done : List A) (ps : List Bytes) {all : List A} → rows_from f h done ps ≡ read all → RowsBack h done ps all
    unfolding rows_from
    rows_read_written h done [] e = record { rows = []; are = append-nil done ∙ read_is e; formed = no_row; written = refl }
    rows_read_written h done (p ∷ ps) {all} e = go (read_line f h done p) (λ x. rows_read_written h (done ++ (x ∷ [])) ps) refl e
      where
        go : (j : Judgement A) → ((x : A) → rows_from f h (done ++ (x ∷ [])) ps ≡ read all → RowsBack h (done ++ (x ∷ [])) ps all) → read_line f h done p ≡ j
            → at (place_of (length done)) j (λ x. rows_from f h (done ++ (x ∷ [])) ps) ≡ read all → RowsBack h done (p ∷ ps) all
        go (bad n) ih q v = refused_read n (place_of (length done)) v
        go (good x) ih q v =
            let l = line_read_written h done p q in
            let b = ih x v in
            record {
              rows = x ∷ b.rows;
              are = sym (append_assoc done (x ∷ []) b.rows) ∙ b.are;
              formed = row l.follows b.formed;
              written = λ i. l.written i ∷ b.written i;
            }

    record Ended (h : H) (rows : List A) (rest : Bytes) (file : File H A) : Type 0 where
      is : ◌≡◌ {A = File H A} (record { header = h; lines = rows }) file
      whole : T (f.whole h rows)
      nothing : rest ≡ []

    ended_is : (h : H) (rows : List A) (rest : Bytes) {file : File H A} → ended f h rows rest ≡ read file → Ended h rows rest file
    unfolding ended
    ended_is h rows [] {file} e =
        cond_cases (λ r. r ≡ read file → Ended h rows [] file) (f.whole h rows) (read (record { header = h; lines = rows })) (refused 1 (place_of (length rows)))
        (λ t v. record { is = read_is v; whole = t; nothing = refl }) (λ t v. refused_read 1 (place_of (length rows)) v) e
    ended_is h rows (b ∷ bs) e = refused_read (cond (f.too_many h rows (b ∷ bs)) 3 1) (place_of (length rows)) e

    record LinesBack (l : Lines) (file : File H A) : Type 0 where
      formed : FileFormed file
      written : l ≡ lines (f.header.text file.header ∷ map f.line.text file.lines) []

    lines_read_written : (l : Lines) {file : File H A} → read_lines f l ≡ read file → LinesBack l file
    unfolding read_lines
    lines_read_written (lines [] rest) e = refused_read 1 1 e
    lines_read_written (lines (p ∷ ps) rest) {file} e = go (read_header f p) refl e
      where
        body : (h : H) → read_header f p ≡ good h → (r : Reading (List A)) → rows_from f h [] ps ≡ r → onward r (λ rows. ended f h rows rest) ≡ read file
            → LinesBack (lines (p ∷ ps) rest) file
        body h q (refused n place) u v = refused_read n place v
        body h q (read rows) u v =
            let b = rows_read_written h [] ps u in
            let d = ended_is h rows rest v in
            let k = header_read_written p q in
            subst (LinesBack (lines (p ∷ ps) rest)) d.is
            (record {
              formed = record { header = k.passes; rows = subst (RowsFormed h []) b.are b.formed; whole = d.whole };
              written = λ i. lines (sym k.written i ∷ sym (sym (ap (map f.line.text) b.are) ∙ b.written) i) (d.nothing i);
            })

        go : (j : Judgement H) → read_header f p ≡ j → at 1 j (λ h. onward (rows_from f h [] ps) (λ rows. ended f h rows rest)) ≡ read file
            → LinesBack (lines (p ∷ ps) rest) file
        go (bad n) q v = refused_read n 1 v
        go (good h) q v = body h q (rows_from f h [] ps) refl v

    pub file_read_written : (text : Bytes) {file : File H A} → read_file f text ≡ read file → Accepted text file
    unfolding read_file file_text
    file_read_written text e = let b = lines_read_written (lines_of text) e in record { formed = b.formed; written = closed_text text b.written }

  -- ---- which refusals there are, and where: the numbers are 1, 3 and the tests' own
  pub record Numbers (P : ℕ → Type 0) : Type 0 where
    pub form : P 1
    pub many : P 3
    pub header : (h : H) → Each (λ t. P t.0) (f.header_tests h)
    pub line : (h : H) (done : List A) (x : A) → Each (λ t. P t.0) (f.line_tests h done x)

  pub record At (P : ℕ → Type 0) (last n place : ℕ) : Type 0 where
    pub number : P n
    pub least : 1 ≤ place
    pub most : place ≤ last

  module _ (P : ℕ → Type 0) (numbers : Numbers P) where
    pub header_number : (p : Bytes) {n : ℕ} → read_header f p ≡ bad n → P n
    header_number p e = formed_bad P (f.header.reads p) f.header_tests numbers.form numbers.header e

    pub line_number : (h : H) (done : List A) (p : Bytes) {n : ℕ} → read_line f h done p ≡ bad n → P n
    unfolding read_line
    line_number h done p {n} e =
        cond_cases (λ j. j ≡ bad n → P n) (f.too_many h done p) (bad 3) (formed (f.line.reads p) (f.line_tests h done))
        (λ t v. let same : 3 ≡ n = cc in subst P same numbers.many) (λ t v. formed_bad P (f.line.reads p) (f.line_tests h done) numbers.form (numbers.line h done) v) e

    told : {B : Type 0} {m q n place : ℕ} (last : ℕ) → P m → 1 ≤ q → q ≤ last → ◌≡◌ {A = Reading B} (refused m q) (refused n place) → At P last n place
    told {m = m} {q} {n} {place} last i a b e =
        let number : m ≡ n = cc in
        let same : q ≡ place = cc in
        record { number = subst P number i; least = omega arith; most = omega arith }

    -- closed lines: a refusal stands at one of them, or there is a row for each
    data RowsAt (last : ℕ) : Reading (List A) → Type 0 where
      rows_at : (n place : ℕ) → P n → 1 ≤ place → place ≤ last → RowsAt last (refused n place)
      rows_read : (rows : List A) → suc (length rows) ≤ last → RowsAt last (read rows)

    rows_answer : (h : H) (done : List A) (ps : List Bytes) (last : ℕ) → suc (length done + length ps) ≤ last → RowsAt last (rows_from f h done ps)
    unfolding rows_from
    rows_answer h done [] last m = rows_read done (omega arith)
    rows_answer h done (p ∷ ps) last m =
        go (read_line f h done p) refl (λ x. rows_answer h (done ++ (x ∷ [])) ps last (let a = length-append done (x ∷ []) in omega arith))
      where
        go : (j : Judgement A) → read_line f h done p ≡ j → ((x : A) → RowsAt last (rows_from f h (done ++ (x ∷ [])) ps))
            → RowsAt last (at (place_of (length done)) j (λ x. rows_from f h (done ++ (x ∷ [])) ps))
        go (good x) q ih = ih x
        go (bad n) q ih = rows_at n (place_of (length done)) (line_number h done p q) (omega arith) (omega arith)

    end_number : (b : Bool) → P (cond b 3 1)
    end_number true = numbers.many
    end_number false = numbers.form

    ended_answer : (h : H) (rows : List A) (rest : Bytes) (last : ℕ) → length rows + 2 ≤ last → {n place : ℕ} → ended f h rows rest ≡ refused n place → At P last n place
    unfolding ended
    ended_answer h rows [] last m {n} {place} e =
        cond_cases (λ r. r ≡ refused n place → At P last n place) (f.whole h rows) (read (record { header = h; lines = rows })) (refused 1 (place_of (length rows)))
        (λ t v. read_refused (record { header = h; lines = rows }) v) (λ t v. told last numbers.form (omega arith) (omega arith) v) e
    ended_answer h rows (b ∷ bs) last m e = told last (end_number (f.too_many h rows (b ∷ bs))) (omega arith) (omega arith) e

    -- one past the closed lines at most
    pub refusal : (ps : List Bytes) (rest : Bytes) {n place : ℕ} → read_lines f (lines ps rest) ≡ refused n place → At P (suc (length ps)) n place
    unfolding read_lines
    refusal [] rest e = told 1 numbers.form (omega arith) (omega arith) e
    refusal (p ∷ ps) rest {n} {place} e = go (read_header f p) refl e
      where
        body : (h : H) {r : Reading (List A)} → RowsAt (suc (length ps)) r → onward r (λ rows. ended f h rows rest) ≡ refused n place → At P (suc (suc (length ps))) n place
        body h (rows_at m q i a b) v = told (suc (suc (length ps))) i (omega arith) (omega arith) v
        body h (rows_read rows a) v = ended_answer h rows rest (suc (suc (length ps))) (omega arith) v

        go : (j : Judgement H) → read_header f p ≡ j → at 1 j (λ h. onward (rows_from f h [] ps) (λ rows. ended f h rows rest)) ≡ refused n place
            → At P (suc (suc (length ps))) n place
        go (good h) u v = body h (rows_answer h [] ps (suc (length ps)) (omega arith)) v
        go (bad m) u v = told (suc (suc (length ps))) (header_number p u) (omega arith) (omega arith) v
