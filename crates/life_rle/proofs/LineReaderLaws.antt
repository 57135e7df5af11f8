-- Reading line by line agrees with the definition: one more line before the header, the header, and an end before it.
use Rattle.std.proofs.Common.{◌≡◌, ℕ, suc, ◌+◌, Bool, true, false, not, cond, List, [], ◌∷◌, take, drop, map, refl, ap}
use Rattle.std.proofs.Common.{◌∙◌, sym, subst, arith, Result, Ok, Err, Option, inl, inr}
use Rattle.std.specs.List.{All, flat_map, position_or_len}
use Rattle.std.specs.FinSet as set
use Rattle.life_core.specs.declared.cell.Cell.{Cell}
use Rattle.life_core.specs.Rule.{RuleSets}
use Rattle.life_core.specs.Pattern.{Cells, normal}
use Rattle.life_core.specs.RuleText.{without_blanks}
use Rattle.life_rle.specs.declared.rle_fault.RleFault.{RleFault}
use Rattle.life_rle.specs.declared.rle_fault.RleFault.TheVariants.{TextLimit, Memory}
use Rattle.life_rle.specs.declared.rle_lines.LineKind.{LineKind}
use Rattle.life_rle.specs.declared.rle_lines.LineKind.TheVariants as kinds
use Rattle.life_rle.specs.declared.line_reader.LineReader.{LineReader}
use Rattle.life_rle.specs.declared.line_reader.Stage.TheVariants as stages
use Rattle.life_rle.specs.declared.body.BodyReader.{BodyReader}
use Rattle.life_rle.specs.RleFault.{Fails, ◌>>=◌}
use Rattle.life_rle.specs.RleLines.{line_kind, header}
use Rattle.life_rle.specs.RleLinesState.{kind_of}
use Rattle.life_rle.specs.Notes.{Notes, notes_of, with_line, is_header, is_header_kind, is_past_limit, notes}
use Rattle.life_rle.specs.Header.{header_rule}
use Rattle.life_rle.specs.Body.{body_cells, IsPlaced}
use Rattle.life_rle.specs.BodyState.{outcome, start, body_from}
use Rattle.life_rle.specs.Record.{Contents, IsRecord, IsInside}
use Rattle.life_rle.specs.File.{cell_of, contents, chosen_rule, body_part, after_front, read_lines}
use Rattle.life_rle.specs.LineReaderState.{front_rule, resumed, resumed_at}
use Rattle.life_rle.specs.Writer.{coordinates}
use Rattle.life_rle.proofs.BodyLaws.{body_from_start}
use Rattle.life_rle.proofs.RecordCells.{normal_inside}
use Rattle.life_rle.proofs.RecordPairs.{placed_back}

by_place : Notes → List (List ℕ) → ℕ → Result Contents RleFault
by_place before lines n =
    cond (is_past_limit (notes_of before (take n lines))) (Err TextLimit)
    (after_front (notes_of before (take n lines)) (drop n lines))

read_lines_is : (before : Notes) (lines : List (List ℕ))
    → read_lines before lines ≡ by_place before lines (position_or_len is_header lines)
unfolding read_lines by_place
read_lines_is before lines = refl

-- a line that is no header
pub read_lines_front : (before : Notes) (line : List ℕ) (lines : List (List ℕ)) → is_header line ≡ false
    → read_lines before (line ∷ lines) ≡ read_lines (with_line before (line_kind line)) lines
unfolding by_place
read_lines_front before line lines h =
    read_lines_is before (line ∷ lines)
    ∙ ap (λ b. by_place before (line ∷ lines) (cond (not b) (1 + position_or_len is_header lines) 0)) h
    ∙ ap (λ n. by_place before (line ∷ lines) n)
    (let e : 1 + position_or_len is_header lines ≡ suc (position_or_len is_header lines) = omega arith in e)
    ∙ sym (read_lines_is (with_line before (line_kind line)) lines)

sides : (t : Bool) (given : Result (Option (List ℕ)) RleFault) (before : Notes) (lines : List (List ℕ)) →
    cond t (Err TextLimit) (given >>= λ g. chosen_rule g before.rule >>=
    λ rule. body_cells (flat_map body_part lines) >>= λ cells. Ok (contents before rule cells))
    ≡ cond t (Err TextLimit) (given >>= λ g. chosen_rule g before.rule) >>=
    λ rule. body_cells (flat_map body_part lines) >>= λ cells. Ok (contents before rule cells)
sides true given before lines = refl
sides false (Err fault) before lines = refl
sides false (Ok g) before lines = refl

-- the header line
pub read_lines_header : (before : Notes) (line : List ℕ) (lines : List (List ℕ)) → is_header line ≡ true →
    read_lines before (line ∷ lines) ≡ front_rule before (without_blanks line) >>=
    λ rule. body_cells (flat_map body_part lines) >>= λ cells. Ok (contents before rule cells)
unfolding by_place after_front front_rule
read_lines_header before line lines h =
    read_lines_is before (line ∷ lines)
    ∙ ap (λ b. by_place before (line ∷ lines) (cond (not b) (1 + position_or_len is_header lines) 0)) h
    ∙ sides (is_past_limit before) (header_rule (without_blanks line)) before lines

-- a line that the code finds to be no header
pub not_header : (k : LineKind) (line : List ℕ) → kind_of k ≡ line_kind line → (k ≡ kinds.Header → ⊥)
    → is_header line ≡ false
not_header kinds.Header line h other = absurd (other refl)
not_header kinds.Passed line h other = ap is_header_kind (sym h)
not_header (kinds.Name t) line h other = ap is_header_kind (sym h)
not_header (kinds.Author t) line h other = ap is_header_kind (sym h)
not_header (kinds.Comment t) line h other = ap is_header_kind (sym h)
not_header (kinds.Rule t) line h other = ap is_header_kind (sym h)

pub front_more : {A : Type 0} (old new : LineReader A) (line : List ℕ) (lines : List (List ℕ))
    → old.stage ≡ stages.Front
    → new.stage ≡ old.stage → (kind : LineKind) → kind_of kind ≡ line_kind line → (kind ≡ kinds.Header → ⊥) →
    notes new.notes ≡ with_line (notes old.notes) (kind_of kind) → resumed new lines ≡ resumed old (line ∷ lines)
front_more old new line lines front same kind is other after =
    ap (λ s. resumed_at s new lines) (same ∙ front)
    ∙ ap (λ n. read_lines n lines) (after ∙ ap (λ k. with_line (notes old.notes) k) is)
    ∙ sym (read_lines_front (notes old.notes) line lines (not_header kind line is other))
    ∙ ap (λ s. resumed_at s old (line ∷ lines)) (sym front)

pub header_more : {A : Type 0} (old : LineReader A) (body : BodyReader A) (rule : RuleSets) (line text : List ℕ)
    (lines : List (List ℕ)) → old.stage ≡ stages.Front → line_kind line ≡ header → text ≡ without_blanks line →
    ((rest : List ℕ) → outcome body rest ≡ body_from start rest) → front_rule (notes old.notes) text ≡ Ok rule →
    (outcome body (flat_map body_part lines) >>= λ cells. Ok (contents (notes old.notes) rule cells))
    ≡ resumed old (line ∷ lines)
header_more old body rule line text lines front is same begins judged =
    ap (λ cells. cells >>= λ cells. Ok (contents (notes old.notes) rule cells))
    (begins (flat_map body_part lines) ∙ body_from_start (flat_map body_part lines))
    ∙ ap
    (λ r. r >>= λ rule. body_cells (flat_map body_part lines) >>= λ cells. Ok (contents (notes old.notes) rule cells))
    (sym judged ∙ ap (λ t. front_rule (notes old.notes) t) same)
    ∙ sym (read_lines_header (notes old.notes) line lines (ap is_header_kind is))
    ∙ ap (λ s. resumed_at s old (line ∷ lines)) (sym front)

fails_is : {X : Type 0} (fault : RleFault) (read : Result X RleFault) → (fault ≡ Memory → ⊥)
    → Fails fault read → Err fault ≡ read
fails_is fault read other (inl memory) = absurd (other memory)
fails_is fault read other (inr e) = sym e

pub header_fault : {A : Type 0} (old : LineReader A) (fault : RleFault) (line text : List ℕ) (lines : List (List ℕ))
    → old.stage ≡ stages.Front → line_kind line ≡ header → text ≡ without_blanks line →
    (fault ≡ Memory → ⊥) → Fails fault (front_rule (notes old.notes) text) → Err fault ≡ resumed old (line ∷ lines)
header_fault old fault line text lines front is same other judged =
    ap
    (λ r. r >>= λ rule. body_cells (flat_map body_part lines) >>= λ cells. Ok (contents (notes old.notes) rule cells))
    (fails_is fault (front_rule (notes old.notes) text) other judged ∙ ap (λ t. front_rule (notes old.notes) t) same)
    ∙ sym (read_lines_header (notes old.notes) line lines (ap is_header_kind is))
    ∙ ap (λ s. resumed_at s old (line ∷ lines)) (sym front)

-- ---- the end

pub body_end : {A : Type 0} (r : LineReader A) (cells : List (ℕ × ℕ)) → r.stage ≡ stages.Body
    → outcome r.body [] ≡ Ok cells
    → resumed r [] ≡ Ok (contents (notes r.notes) r.rule cells)
body_end r cells body read =
    ap (λ s. resumed_at s r []) body ∙ ap (λ a. a >>= λ cells. Ok (contents (notes r.notes) r.rule cells)) read

-- the record of the cells that the code made
pub is_record_with : (n : Notes) (rule : RuleSets) (pairs : List (ℕ × ℕ)) (X : Cells)
    → X ≡ normal (set.from_list (map cell_of pairs)) → IsRecord (contents n rule pairs) →
    IsRecord (record { name = n.name; author = n.author; comments = n.comments; rule = rule; cells = X })
is_record_with n rule pairs X is h =
    subst (λ (Y : Cells). IsRecord (record {
      name = n.name;
      author = n.author;
      comments = n.comments;
      rule = rule;
      cells = Y;
    })) (sym is) h

pub is_inside_with : (cs : List Cell) (X : Cells) → X ≡ normal (set.from_list (map cell_of (map coordinates cs)))
    → All IsPlaced cs → IsInside 1024 X
is_inside_with cs X is all =
    subst (λ (Y : Cells). IsInside 1024 Y) (sym (is ∙ ap (λ ds. normal (set.from_list ds)) (placed_back cs all)))
    (normal_inside cs all)
