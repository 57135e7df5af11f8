-- The text of a record is read as the same record.
use Rattle.std.specs.Prelude.{codes, slice_index}
use Rattle.std.proofs.Common.{◌≡◌, ℕ, ◌≤◌, ◌+◌, false, cond, ◌||◌, max, List, [], ◌∷◌, ◌++◌, length, drop, refl, ap}
use Rattle.std.proofs.Common.{◌∙◌, sym, arith, Option, Some, None, Ok, Err, nat_eq}
use Rattle.std.specs.List.{flat_map, AllByRecursion, starts_with, list_any, fold}
use Rattle.std.proofs.lemmas.List.{append_assoc, append-nil}
use Rattle.std.proofs.lemmas.Bool.{ne_eqb, le-ltb}
use Rattle.life_core.specs.Rule.{IsRule}
use Rattle.life_core.specs.RuleText.{without_blanks, rule_text}
use Rattle.life_core.specs.Pattern.{Cells, normal}
use Rattle.life_core.proofs.RuleTextLemmas.{read_rule-rule_text, rule_text-one_line, without_blanks-rule_text}
use Rattle.life_rle.specs.declared.rle_fault.RleFault.TheVariants.{TooLong, TextLimit}
use Rattle.life_rle.specs.RleFault.{in_file, ◌>>=◌}
use Rattle.life_rle.specs.RleLines.{Line, passed, named, authored, comment, line_kind, marked, lines_of, trim}
use Rattle.life_rle.specs.Notes.{Notes, no_notes, with_line, is_header_kind, is_past_limit, is_long, is_long_text}
use Rattle.life_rle.specs.Header.{header_rule}
use Rattle.life_rle.specs.Body.{body_cells}
use Rattle.life_rle.specs.Record.{Contents, HasNoLineEnd, IsText, IsName, IsRecord}
use Rattle.life_rle.specs.File.{contents, chosen_rule, body_part, read_lines, kept, file}
use Rattle.life_rle.specs.LineReaderState.{front_rule}
use Rattle.life_rle.specs.Writer.{text_line, optional_line, comment_line, header_line, width_of, height_of, laid}
use Rattle.life_rle.specs.Writer.{item_texts, pairs_of, text}
use Rattle.life_rle.specs.RleLaws.{IsReadAgain, IsFileAgain}
use Rattle.life_rle.proofs.LinesLaws.{lines_cut}
use Rattle.life_rle.proofs.LineReaderLaws.{read_lines_front, read_lines_header}
use Rattle.life_rle.proofs.RecordPairs.{AllInside, pairs_in_order, pairs_back, pairs_inside}
use Rattle.life_rle.proofs.RoundLines.{body_lines_round}
use Rattle.life_rle.proofs.RoundHeader.{header_text, header_round, header_kind, header_no_end}

-- a line and its end
line_cut : (line rest : List ℕ) → HasNoLineEnd line → lines_of ((line ++ 10 ∷ []) ++ rest) ≡ line ∷ lines_of rest
line_cut line rest p = ap lines_of (append_assoc line (10 ∷ []) rest) ∙ lines_cut line [] rest p

-- what the marked lines are
mark_kind : (bytes : List ℕ) → line_kind (35 ∷ bytes) ≡ cond (starts_with nat_eq (35 ∷ bytes) (codes "#CXRLE")) passed
    (marked (slice_index (35 ∷ bytes) 1) (trim (drop 2 (35 ∷ bytes))))
unfolding line_kind
mark_kind bytes =
    ap (λ t. cond t passed (cond (starts_with nat_eq (35 ∷ bytes) (codes "#CXRLE")) passed
    (marked (slice_index (35 ∷ bytes) 1) (trim (drop 2 (35 ∷ bytes))))))
    (ne_eqb (length (35 ∷ bytes)) 0 (λ e. omega arith))

name_kind : (bytes : List ℕ) → trim bytes ≡ bytes → line_kind (35 ∷ 78 ∷ 32 ∷ bytes) ≡ named bytes
name_kind bytes h = mark_kind (78 ∷ 32 ∷ bytes) ∙ ap named h

author_kind : (bytes : List ℕ) → trim bytes ≡ bytes → line_kind (35 ∷ 79 ∷ 32 ∷ bytes) ≡ authored bytes
author_kind bytes h = mark_kind (79 ∷ 32 ∷ bytes) ∙ ap authored h

comment_kind : (bytes : List ℕ) → trim bytes ≡ bytes → line_kind (35 ∷ 67 ∷ 32 ∷ bytes) ≡ comment bytes
comment_kind bytes h = mark_kind (67 ∷ 32 ∷ bytes) ∙ ap comment h

empty_comment_kind : line_kind (35 ∷ 67 ∷ []) ≡ comment []
unfolding line_kind
empty_comment_kind = refl

-- one line before the header
line_read : (notes : Notes) (line rest : List ℕ) (kind : Line) → HasNoLineEnd line → line_kind line ≡ kind
    → is_header_kind kind ≡ false →
    read_lines notes (lines_of ((line ++ 10 ∷ []) ++ rest)) ≡ read_lines (with_line notes kind) (lines_of rest)
line_read notes line rest kind p is other =
    ap (λ ls. read_lines notes ls) (line_cut line rest p)
    ∙ read_lines_front notes line (lines_of rest) (ap is_header_kind is ∙ other)
    ∙ ap (λ k. read_lines (with_line notes k) (lines_of rest)) is

abbrev noted : Option (List ℕ) → Option (List ℕ) → List (List ℕ) → Notes
noted name author comments = record { name = name; author = author; comments = comments; rule = None }

name_read : (name : Option (List ℕ)) (rest : List ℕ) → IsName name
    → read_lines no_notes (lines_of (optional_line 78 name ++ rest)) ≡ read_lines (noted name None []) (lines_of rest)
name_read None rest h = refl
name_read (Some bytes) rest h =
    line_read no_notes (35 ∷ 78 ∷ 32 ∷ bytes) rest (named bytes) (refl, (refl, (refl, h.0.line)))
    (name_kind bytes h.0.trimmed) refl
    ∙ ap (λ t. read_lines (cond t no_notes (noted (Some bytes) None [])) (lines_of rest)) (ne_eqb (length bytes) 0 h.1)

author_read : (name author : Option (List ℕ)) (rest : List ℕ) → IsName author → read_lines (noted name None [])
    (lines_of (optional_line 79 author ++ rest)) ≡ read_lines (noted name author []) (lines_of rest)
author_read name None rest h = refl
author_read name (Some bytes) rest h =
    line_read (noted name None []) (35 ∷ 79 ∷ 32 ∷ bytes) rest (authored bytes) (refl, (refl, (refl, h.0.line)))
    (author_kind bytes h.0.trimmed) refl
    ∙ ap (λ t. read_lines (cond t (noted name None []) (noted name (Some bytes) [])) (lines_of rest))
    (ne_eqb (length bytes) 0 h.1)

comment_read : (name author : Option (List ℕ)) (before : List (List ℕ)) (bytes rest : List ℕ) → IsText bytes →
    read_lines (noted name author before) (lines_of (comment_line bytes ++ rest))
    ≡ read_lines (noted name author (before ++ bytes ∷ [])) (lines_of rest)
comment_read name author before [] rest h =
    line_read (noted name author before) (35 ∷ 67 ∷ []) rest (comment []) (refl, (refl, tt)) empty_comment_kind refl
comment_read name author before (b ∷ bytes) rest h =
    ap (λ t. read_lines (noted name author before)
    (lines_of (cond t (35 ∷ 67 ∷ 10 ∷ []) (text_line 67 (b ∷ bytes)) ++ rest)))
    (ne_eqb (length (b ∷ bytes)) 0 (λ e. omega arith))
    ∙ line_read (noted name author before) (35 ∷ 67 ∷ 32 ∷ b ∷ bytes) rest (comment (b ∷ bytes))
    (refl, (refl, (refl, h.line))) (comment_kind (b ∷ bytes) h.trimmed) refl

comments_read : (name author : Option (List ℕ)) (before comments : List (List ℕ)) (rest : List ℕ)
    → AllByRecursion IsText comments →
    read_lines (noted name author before) (lines_of (flat_map comment_line comments ++ rest))
    ≡ read_lines (noted name author (before ++ comments)) (lines_of rest)
comments_read name author before [] rest all =
    ap (λ c. read_lines (noted name author c) (lines_of rest)) (sym (append-nil before))
comments_read name author before (bytes ∷ comments) rest all =
    ap (λ t. read_lines (noted name author before) (lines_of t))
    (append_assoc (comment_line bytes) (flat_map comment_line comments) rest)
    ∙ comment_read name author before bytes (flat_map comment_line comments ++ rest) all.0
    ∙ comments_read name author (before ++ bytes ∷ []) comments rest all.1
    ∙ ap (λ c. read_lines (noted name author c) (lines_of rest)) (append_assoc before (bytes ∷ []) comments)

-- the limits
short_name : (name : Option (List ℕ)) → IsName name → is_long_text name ≡ false
short_name None h = refl
short_name (Some bytes) h = le-ltb 200 (length bytes) h.0.short

short_comments : (comments : List (List ℕ)) → AllByRecursion IsText comments → list_any is_long comments ≡ false
short_comments [] all = refl
short_comments (bytes ∷ comments) all =
    ap (λ t. t || list_any is_long comments) (le-ltb 200 (length bytes) all.0.short) ∙ short_comments comments all.1

in_limit : (r : Contents) → IsRecord r → is_past_limit (noted r.name r.author r.comments) ≡ false
in_limit r h = rw (
  short_name r.name h.name,
  short_name r.author h.author,
  short_comments r.comments h.comments,
  le-ltb 64 (length r.comments) h.few,
) refl

-- the header and what follows it
header_read : (r : Contents) (rest : List ℕ) → IsRecord r → IsRule r.rule → (width height : ℕ)
    → width ≤ 1024 → height ≤ 1024 →
    read_lines (noted r.name r.author r.comments) (lines_of (header_line width height (rule_text r.rule) ++ rest))
    ≡ body_cells (flat_map body_part (lines_of rest)) >>=
    λ cells. Ok (contents (noted r.name r.author r.comments) r.rule cells)
unfolding front_rule
header_read r rest h g width height w t =
    ap (λ ls. read_lines (noted r.name r.author r.comments) ls) (line_cut (header_text width height (rule_text r.rule))
    rest (header_no_end width height (rule_text r.rule) w t (rule_text-one_line r.rule)))
    ∙ read_lines_header (noted r.name r.author r.comments) (header_text width height (rule_text r.rule))
    (lines_of rest) (ap is_header_kind (header_kind width height (rule_text r.rule)))
    ∙ ap (λ a. a >>= λ rule. body_cells (flat_map body_part (lines_of rest)) >>=
    λ cells. Ok (contents (noted r.name r.author r.comments) rule cells))
    (ap (λ t. cond t (Err TextLimit) (header_rule (without_blanks (header_text width height (rule_text r.rule))) >>=
    λ given. chosen_rule given None)) (in_limit r h)
    ∙ ap (λ a. a >>= λ given. chosen_rule given None)
    (header_round width height (rule_text r.rule) w t (without_blanks-rule_text r.rule))
    ∙ ap in_file (read_rule-rule_text r.rule g))

-- the box
width_by : (cells : List (ℕ × ℕ)) (n : ℕ) → n ≤ 1024 → AllInside cells
    → fold (λ n cell. max n (cell.0 + 1)) n cells ≤ 1024
width_by [] n small inside = small
width_by (cell ∷ cells) n small inside = width_by cells (max n (cell.0 + 1)) (omega (arith, inside.0)) inside.2

height_by : (cells : List (ℕ × ℕ)) (n : ℕ) → n ≤ 1024 → AllInside cells
    → fold (λ n cell. max n (cell.1 + 1)) n cells ≤ 1024
height_by [] n small inside = small
height_by (cell ∷ cells) n small inside = height_by cells (max n (cell.1 + 1)) (omega (arith, inside.1)) inside.2

parts : (a b c d e : List ℕ) → a ++ b ++ c ++ d ++ e ≡ a ++ (b ++ (c ++ (d ++ e)))
parts a b c d e = simp append_assoc

same_record : (r : Contents) → IsRecord r → contents (noted r.name r.author r.comments) r.rule (pairs_of r.cells) ≡ r
same_record r h = ap (λ (X : Cells). record r { cells = X }) (ap normal (pairs_back r.cells h.cells) ∙ h.cells)

pub read_again : IsReadAgain
unfolding kept text
read_again r h g inside =
    let cells : List (ℕ × ℕ) = pairs_of r.cells in
    let all : AllInside cells = pairs_inside r.cells h.cells inside in
    let width : width_of cells ≤ 1024 = width_by cells 0 (omega arith) all in
    let height : height_of cells ≤ 1024 = height_by cells 0 (omega arith) all in
    let body = laid 0 (item_texts cells) in
    let head = header_line (width_of cells) (height_of cells) (rule_text r.rule) in
    ap (λ t. read_lines no_notes (lines_of t))
    (parts (optional_line 78 r.name) (optional_line 79 r.author) (flat_map comment_line r.comments) head body)
    ∙ name_read r.name (optional_line 79 r.author ++ (flat_map comment_line r.comments ++ (head ++ body))) h.name
    ∙ author_read r.name r.author (flat_map comment_line r.comments ++ (head ++ body)) h.author
    ∙ comments_read r.name r.author [] r.comments (head ++ body) h.comments
    ∙ header_read r body h g (width_of cells) (height_of cells) width height
    ∙ ap (λ a. a >>= λ cells. Ok (contents (noted r.name r.author r.comments) r.rule cells))
    (body_lines_round cells (pairs_in_order r.cells h.cells) all)
    ∙ ap Ok (same_record r h)

pub file_again : IsFileAgain
unfolding file
file_again r h g inside short =
    ap (λ t. cond t (Err TooLong) (kept (text r))) (le-ltb 1048576 (length (text r)) short) ∙ read_again r h g inside
