-- Cutting a text into closed lines and the rest, and writing closed lines, are inverse; and a text is cut part by part. Assumes nothing.
use Prim.Native.Nat.{ℕ}
use mathlib.Core.Path.{◌≡◌, refl, sym, ap, ◌∙◌}
use mathlib.Core.Bool.{Bool, true, false, cond}
use mathlib.Core.List.{List, [], ◌∷◌, ◌++◌, append-nil}
use borrow.Author.Tests.{ne_eqb}
use lib.Dec.{eqb}
use Rattle.fields.specs.Pieces as Pieces
use Rattle.fields.specs.Pieces.{Bytes, line_feed, split}
use Rattle.fields.proofs.Each.{Each, none, one}
use Rattle.fields.proofs.PieceLaws.{Without, byte_by_byte, split_here, split_other}
use Rattle.rows.specs.Lines.{Lines, lines, closed, in_front, lines_of, text_of}

pub lines_here : (s : Bytes) → lines_of (line_feed ∷ s) ≡ closed [] (lines_of s)
unfolding lines_of
lines_here s = refl

pub lines_other : (b : ℕ) (s : Bytes) → (b ≡ line_feed → ⊥) → lines_of (b ∷ s) ≡ in_front b (lines_of s)
unfolding lines_of
lines_other b s n = simp (ne_eqb b line_feed n)

-- ---- part by part: a text is its closed lines and a rest
-- closed lines before others
abbrev pub before : List Bytes → Lines → Lines
before [] l = l
before (p ∷ ps) l = closed p (before ps l)

-- bytes before the first line
abbrev pub bytes_before : Bytes → Lines → Lines
bytes_before [] l = l
bytes_before (b ∷ bs) l = in_front b (bytes_before bs l)

abbrev pub glued : Lines → Lines → Lines
glued (lines ps rest) l = before ps (bytes_before rest l)

pub before_lines : (ps qs : List Bytes) (rest : Bytes) → before ps (lines qs rest) ≡ lines (ps ++ qs) rest
before_lines [] qs rest = refl
before_lines (p ∷ ps) qs rest = ap (closed p) (before_lines ps qs rest)

front_closed : (b : ℕ) (p : Bytes) (l : Lines) → in_front b (closed p l) ≡ closed (b ∷ p) l
front_closed b p (lines ps rest) = refl

front_glued : (b : ℕ) (l m : Lines) → in_front b (glued l m) ≡ glued (in_front b l) m
front_glued b (lines [] rest) m = refl
front_glued b (lines (p ∷ ps) rest) m = front_closed b p (before ps (bytes_before rest m))

closed_glued : (p : Bytes) (l m : Lines) → closed p (glued l m) ≡ glued (closed p l) m
closed_glued p (lines ps rest) m = refl

pub lines_append : (s t : Bytes) → lines_of (s ++ t) ≡ glued (lines_of s) (lines_of t)
unfolding lines_of
lines_append [] t = refl
lines_append (b ∷ s) t = ap (λ (l : Lines). cond (eqb b line_feed) (closed [] l) (in_front b l)) (lines_append s t) ∙ go (eqb b line_feed)
  where
    go : (x : Bool) → cond x (closed [] (glued (lines_of s) (lines_of t))) (in_front b (glued (lines_of s) (lines_of t)))
        ≡ glued (cond x (closed [] (lines_of s)) (in_front b (lines_of s))) (lines_of t)
    go true = closed_glued [] (lines_of s) (lines_of t)
    go false = front_glued b (lines_of s) (lines_of t)

-- bytes stand before the first line if there is one, and else before the rest
pub before_first : (bs : Bytes) (q : Bytes) (qs : List Bytes) (rest : Bytes) → bytes_before bs (lines (q ∷ qs) rest) ≡ lines ((bs ++ q) ∷ qs) rest
before_first [] q qs rest = refl
before_first (b ∷ bs) q qs rest = ap (in_front b) (before_first bs q qs rest)

pub before_rest : (bs rest : Bytes) → bytes_before bs (lines [] rest) ≡ lines [] (bs ++ rest)
before_rest [] rest = refl
before_rest (b ∷ bs) rest = ap (in_front b) (before_rest bs rest)

-- ---- inverse, for lines without line feeds
pub lines_none : {p : Bytes} → Without line_feed p → lines_of p ≡ lines [] p
unfolding lines_of
lines_none none = refl
lines_none (one {x = b} {xs = p} n w) = lines_other b p n ∙ ap (in_front b) (lines_none w)

-- one closed line and what follows it
pub lines_closed : {p : Bytes} (s : Bytes) → Without line_feed p → lines_of (p ++ (line_feed ∷ s)) ≡ closed p (lines_of s)
lines_closed s none = lines_here s
lines_closed s (one {x = b} {xs = p} n w) =
    lines_other b (p ++ (line_feed ∷ s)) n ∙ ap (in_front b) (lines_closed s w) ∙ front_closed b p (lines_of s)

pub lines_text_lem : {ps : List Bytes} → Each (Without line_feed) ps → lines_of (text_of ps) ≡ lines ps []
unfolding lines_of text_of
lines_text_lem none = refl
lines_text_lem (one {x = p} {xs = ps} w ws) = lines_closed (text_of ps) w ∙ ap (closed p) (lines_text_lem ws)

abbrev pub whole_text : Lines → Bytes
whole_text (lines ps rest) = text_of ps ++ rest

text_front : (b : ℕ) (l : Lines) → whole_text (in_front b l) ≡ b ∷ whole_text l
unfolding text_of
text_front b (lines [] rest) = refl
text_front b (lines (p ∷ ps) rest) = refl

text_closed : (l : Lines) → whole_text (closed [] l) ≡ line_feed ∷ whole_text l
unfolding text_of
text_closed (lines ps rest) = refl

pub text_lines : (s : Bytes) → whole_text (lines_of s) ≡ s
unfolding lines_of text_of
text_lines =
    byte_by_byte line_feed (λ s. whole_text (lines_of s) ≡ s) refl
    (λ s e. ap whole_text (lines_here s) ∙ text_closed (lines_of s) ∙ ap (λ (t : Bytes). line_feed ∷ t) e)
    (λ b s n e. ap whole_text (lines_other b s n) ∙ text_front b (lines_of s) ∙ ap (λ (t : Bytes). b ∷ t) e)

pub closed_text : (s : Bytes) {ps : List Bytes} → lines_of s ≡ lines ps [] → text_of ps ≡ s
closed_text s {ps} e = sym (append-nil (text_of ps)) ∙ ap whole_text (sym e) ∙ text_lines s

-- ---- a text that ends with a line feed is closed lines, at least one
pub record Closed (s : Bytes) : Type 0 where
  pub first : Bytes
  pub more : List Bytes
  pub are : lines_of s ≡ lines (first ∷ more) []

pub closed_lines : (s : Bytes) → Closed (s ++ (line_feed ∷ []))
unfolding lines_of
closed_lines s = go (lines_of s) (lines_append s (line_feed ∷ []))
  where
    go : (l : Lines) → lines_of (s ++ (line_feed ∷ [])) ≡ glued l (lines ([] ∷ []) []) → Closed (s ++ (line_feed ∷ []))
    go (lines [] rest) e = record { first = rest ++ []; more = []; are = e ∙ before_first rest [] [] [] }
    go (lines (p ∷ ps) rest) e =
        record {
          first = p;
          more = ps ++ ((rest ++ []) ∷ []);
          are = e ∙ ap (before (p ∷ ps)) (before_first rest [] [] []) ∙ before_lines (p ∷ ps) ((rest ++ []) ∷ []) [];
        }

-- ---- the pieces between the line feeds are the closed lines and the rest
abbrev pub pieces : Lines → List Bytes
pieces (lines ps rest) = ps ++ (rest ∷ [])

pieces_front : (b : ℕ) (l : Lines) → Pieces.in_front b (pieces l) ≡ pieces (in_front b l)
pieces_front b (lines [] rest) = refl
pieces_front b (lines (p ∷ ps) rest) = refl

pieces_closed : (l : Lines) → [] ∷ pieces l ≡ pieces (closed [] l)
pieces_closed (lines ps rest) = refl

pub split_lines : (s : Bytes) → split line_feed s ≡ pieces (lines_of s)
unfolding split lines_of
split_lines =
    byte_by_byte line_feed (λ s. split line_feed s ≡ pieces (lines_of s)) refl
    (λ s e. split_here line_feed s ∙ ap (λ (ps : List Bytes). [] ∷ ps) e ∙ pieces_closed (lines_of s) ∙ ap pieces (sym (lines_here s)))
    (λ b s n e. split_other line_feed b s n ∙ ap (Pieces.in_front b) e ∙ pieces_front b (lines_of s) ∙ ap pieces (sym (lines_other b s n)))
