-- Reading from a stream: one more read, and the end.
use Rattle.std.proofs.Common.{◌≡◌, ℕ, ◌<◌, ◌≤◌, ◌+◌, ◌-◌, List, [], ◌++◌, length, take, drop, ap, ◌∙◌, sym, subst}
use Rattle.std.proofs.Common.{arith, Option, None, Some, Result, Ok, Err, cond, inr}
use Rattle.std.proofs.lemmas.List.{append_assoc, take-append-drop, drop_at, take_at, length-drop, length-append}
use Rattle.std.proofs.lemmas.List.{length-take-le, append-nil, take_all}
use Rattle.life_rle.specs.declared.file_reader.FileReader.{FileReader}
use Rattle.std.proofs.lemmas.Bool.{lt-ltb, le-ltb}
use Rattle.life_rle.specs.declared.rle_fault.RleFault.{RleFault}
use Rattle.life_rle.specs.declared.rle_fault.RleFault.TheVariants.{TooLong}
use Rattle.life_rle.specs.declared.rle_fault.ReadFault.TheVariants.{Rle}
use Rattle.life_rle.specs.RleFault.{Fails}
use Rattle.life_rle.specs.Record.{Contents}
use Rattle.life_rle.specs.File.{kept, file}
use Rattle.life_rle.specs.Stream.{Consumes, IsEnded}
use Rattle.life_rle.specs.FileReading.{ReadsKnown}
use Rattle.life_rle.specs.FileReaderState.{awaited, IsSound, Followed, IsFollowed}
use Rattle.life_rle.proofs.RecordLaws.{kept_is_record}

pub follow_end : {A : Type 0} (told now : Option (List ℕ)) (file_reader : FileReader A) (taken : ℕ)
    → taken ≤ 1048577 → Followed told now file_reader taken → IsEnded now → IsFollowed told file_reader taken
follow_end None now file_reader taken most f ended = tt
follow_end (Some bytes) now file_reader taken most f ended =
    let none : drop taken bytes ≡ [] = subst IsEnded f.0 ended in
    let short : length bytes - taken ≡ 0 = sym (length-drop taken bytes) ∙ ap length none in
    (f.1, most, λ _. omega arith, f.2)

bytes_on : (bytes piece rest : List ℕ) (taken k : ℕ) → taken ≤ length bytes → length piece ≡ k
    → drop taken bytes ≡ piece ++ rest →
    (rest ≡ drop (taken + k) bytes) × (taken + k ≤ length bytes) × (take (taken + k) bytes ≡ take taken bytes ++ piece)
bytes_on bytes piece rest taken k some same e =
    let front : length (take taken bytes) ≡ taken = length-take-le taken bytes some in
    let whole : (take taken bytes ++ piece) ++ rest ≡ bytes = append_assoc (take taken bytes) piece rest
    ∙ ap (λ s. take taken bytes ++ s) (sym e) ∙ take-append-drop taken bytes in
    let long : length (take taken bytes ++ piece) ≡ taken + k = omega (arith, length-append (take taken bytes) piece) in
    let all : length bytes ≡ taken + k + length rest = ap length (sym whole)
    ∙ omega (arith, length-append (take taken bytes ++ piece) rest) in (
      sym (drop_at (take taken bytes ++ piece) rest (taken + k) long) ∙ ap (λ s. drop (taken + k) s) whole,
      omega arith,
      ap (λ s. take (taken + k) s) (sym whole) ∙ take_at (take taken bytes ++ piece) rest (taken + k) long,
    )

follow_some : {A : Type 0} (bytes piece : List ℕ) (new : Option (List ℕ)) (old file_reader : FileReader A) (taken k : ℕ)
    → taken ≤ length bytes → ((more : List ℕ) → awaited old more ≡ kept (take taken bytes ++ more)) →
    Consumes (Some (drop taken bytes)) new piece → length piece ≡ k
    → ((more : List ℕ) → awaited file_reader more ≡ awaited old (piece ++ more))
    → Followed (Some bytes) new file_reader (taken + k)
follow_some bytes piece None old file_reader taken k some reads loses same on = absurd loses
follow_some bytes piece (Some rest) old file_reader taken k some reads loses same on =
    let parts = bytes_on bytes piece rest taken k some same loses in (
      ap Some parts.0,
      parts.1,
      λ more. on more ∙ reads (piece ++ more)
          ∙ ap kept (sym (append_assoc (take taken bytes) piece more) ∙ ap (λ s. s ++ more) (sym parts.2)),
    )

pub follow_more : {A : Type 0} (told now new : Option (List ℕ)) (piece : List ℕ) (old file_reader : FileReader A)
    (taken k : ℕ)
    → Followed told now old taken → Consumes now new piece → length piece ≡ k →
    ((more : List ℕ) → awaited file_reader more ≡ awaited old (piece ++ more))
    → Followed told new file_reader (taken + k)
follow_more None now new piece old file_reader taken k f loses same on = tt
follow_more (Some bytes) now new piece old file_reader taken k f loses same on =
    follow_some bytes piece new old file_reader taken k f.1 f.2 (subst (λ n. Consumes n new piece) f.0 loses) same on

pub read_too_long : {A : Type 0} (told : Option (List ℕ)) (file_reader : FileReader A) (taken : ℕ)
    → IsFollowed told file_reader taken → taken ≡ 1048577 → ReadsKnown told (Err (Rle TooLong))
unfolding file
read_too_long None file_reader taken r past = tt
read_too_long (Some bytes) file_reader taken r past =
    inr (ap (λ t. cond t (Err TooLong) (kept bytes)) (lt-ltb 1048576 (length bytes) (omega (arith, r.0))))

file_is : {A : Type 0} (bytes : List ℕ) (file_reader : FileReader A) (taken : ℕ)
    → IsFollowed (Some bytes) file_reader taken
    → (taken ≡ 1048577 → ⊥) → awaited file_reader [] ≡ file bytes
unfolding file
file_is bytes file_reader taken r other =
    let less : taken < 1048577 = omega (arith, r.1) in
    let all : taken ≡ length bytes = r.2 less in
    r.3 [] ∙ ap kept (append-nil (take taken bytes) ∙ take_all taken bytes (omega arith))
    ∙ sym (ap (λ t. cond t (Err TooLong) (kept bytes)) (le-ltb 1048576 (length bytes) (omega arith)))

pub read_ok : {A : Type 0} (told : Option (List ℕ)) (file_reader : FileReader A) (taken : ℕ) (r' : Contents)
    → IsFollowed told file_reader taken → (taken ≡ 1048577 → ⊥) → awaited file_reader [] ≡ Ok (r')
    → ReadsKnown told (Ok r')
read_ok None file_reader taken r' r other is = tt
read_ok (Some bytes) file_reader taken r' r other is = sym (file_is bytes file_reader taken r other) ∙ is

pub read_fault : {A : Type 0} (told : Option (List ℕ)) (file_reader : FileReader A) (taken : ℕ) (fault : RleFault)
    → IsFollowed told file_reader taken → (taken ≡ 1048577 → ⊥) → Fails fault (awaited file_reader [])
    → ReadsKnown told (Err (Rle fault))
read_fault None file_reader taken fault r other is = tt
read_fault (Some bytes) file_reader taken fault r other is =
    let P : Result Contents RleFault → Type 0 = λ x. Fails fault x in
    subst P (file_is bytes file_reader taken r other) is

-- ---- what is read is a record

pub sound_new : {A : Type 0} (file_reader : FileReader A) → ((bytes : List ℕ) → awaited file_reader bytes ≡ kept bytes)
    → IsSound file_reader
sound_new file_reader is bytes r read = kept_is_record bytes r (sym (is bytes) ∙ read)

pub sound_more : {A : Type 0} (old new : FileReader A) (piece : List ℕ) → IsSound old
    → ((bytes : List ℕ) → awaited new bytes ≡ awaited old (piece ++ bytes)) → IsSound new
sound_more old new piece sound on bytes r read = sound (piece ++ bytes) r (sym (on bytes) ∙ read)
