-- Empty files list no table.
use Rattle.std.proofs.Common.{◌≡◌, ◌∙◌, ◌<◌, ◌≤◌, ℕ, [], ◌∷◌, ◌++◌, List, length, take, slice_index, get_or-take}
use Rattle.std.proofs.Common.{Option, Some, ap, sym, inl, inr, arith}
use Rattle.std.specs.Prelude.{codes, unwrap_or, true, false}
use Rattle.std.proofs.lemmas.List.{length-take}
use Rattle.std.proofs.Math.Logic.{∥∥₁_elim}
use Rattle.sqlite_wal.specs.Recovery.{Image}
use Rattle.sqlite_wal.proofs.AppendLemmas.{some_value}
use Rattle.sqlite_wal.proofs.CreateLemmas.{begun_is_not_blank}
use Rattle.sqlite_pages.specs.PageMap.{PageMap}
use Rattle.sqlite_pool.specs.Stored.{Adopts, stored_size, sealed, used_size}
use Rattle.sqlite_pool.specs.StoredLaws.{trimmed_some}
use Rattle.sqlite_pool.specs.Header.{first_page}
use Rattle.sqlite_pool.specs.File.{header_in, IsSoundFile}
use Rattle.sqlite_pool.proofs.ProbeLemmas.{first_byte}
use Rattle.sqlite.specs.Files.{IsNothing}
use Rattle.sqlite.proofs.ListingLemmas.{empty_is_sound}
use Rattle.life_store.specs.Opening.{ListNothing}

-- files whose pages begin with a header are something
headed : (size : ℕ) (image : Image) (pages : PageMap) → Adopts size image pages → IsSoundFile size pages
    → IsNothing image → ⊥
headed size image pages found sound nothing =
    let (page, is) = some_value (found.stored 1) found.whole.first in
    let len = found.whole.sized 1 page is in
    let used : pages 1 ≡ Some (take size page) = ap (λ (p : PageMap). p 1) (sym found.shows)
    ∙ trimmed_some size found.stored 1 page is in
    let head : header_in pages ≡ take 100 (take size page) =
    ap (λ (o : Option (List ℕ)). take 100 (unwrap_or o [])) used in
    let front : take 16 (take 100 (take size page)) ≡ codes "SQLite format 3" ++ 0 ∷ [] = ap (take 16) (sym head)
    ∙ sound.header.0.magic in
    let long : length (take 16 (take 100 (take size page))) ≡ 16 = ap length front in
    let large : 16 ≤ size = omega (
      arith,
      long,
      length-take 16 (take 100 (take size page)),
      length-take 100 (take size page),
      length-take size page,
    ) in
    let byte : slice_index page 0 ≡ 83 =
    sym (get_or-take size page 0 0 (omega arith)) ∙ sym (get_or-take 100 (take size page) 0 0 (omega arith))
    ∙ sym (get_or-take 16 (take 100 (take size page)) 0 0 (omega arith)) ∙ ap (λ (b : List ℕ). slice_index b 0) front in
    let never = λ (other : ℕ) (some : 0 < other). let gate = first_byte other some in
    begun_is_not_blank (sealed (first_page other)) page (stored_size size) image found.stored found.found is len
    (omega arith) (byte ∙ sym gate) (λ none. let e = sym gate ∙ none in omega arith) in
    elim nothing [
      | inl plain ↦ never (used_size 4096 false) (omega arith) plain
      | inr summed ↦ never (used_size 4096 true) (omega arith) summed
    ]

pub blank_lists_nothing : (image : Image) → IsNothing image → ListNothing image
blank_lists_nothing image nothing db (inl found) =
    absurd (∥∥₁_elim found.4 (λ a b. absurd a) (λ ours. headed found.0 image found.1 found.3 ours.file.sound nothing))
blank_lists_nothing image nothing db (inr none) = empty_is_sound db none.1.1
