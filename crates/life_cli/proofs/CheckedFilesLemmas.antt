-- The job that opens files after a check.
use Rattle.std.proofs.Common.{◌≡◌, ◌∙◌, ◌++◌, ◌∷◌, [], ap, ℕ, List, length, true, false, Option, Some, Result, Ok, Err}
use Rattle.std.proofs.Common.{refl, sym, subst, subst₂, inl, inr}
use Rattle.sqlite_disk.specs.declared.Disk as disk
use Rattle.sqlite_disk.specs.declared.Files.{Files}
use Rattle.sqlite_wal.specs.Files.{outcomes}
use Rattle.sqlite_wal.specs.Reads.{AreClean}
use Rattle.sqlite_wal.specs.Recovery.{Image}
use Rattle.life_rle.specs.Stream.{Appends}
use Rattle.life_store.specs.declared.store_fault.Unavailable.{Unavailable as Failed}
use Rattle.life_desk.specs.Archive.{Archive}
use Rattle.life_desk.proofs.Representing.{each_of}
use Rattle.life_check.specs.declared.archive_check.CheckVerdict.{CheckVerdict}
use Rattle.life_check.specs.declared.archive_check.CheckVerdict.TheVariants.{Sound, SoundButForCounts, NotSound}
use Rattle.life_check.specs.declared.archive_check.Wrong.{Wrong}
use Rattle.life_check.specs.Files.{ChecksPath, IsPathCheck}
use Rattle.life_check.specs.Listed.{AreFurther}
use Rattle.life_archive.specs.ArchivePath.{PathJob, BecomesBy, LeavesOne}
use Rattle.life_archive.specs.Session.{under}
use Rattle.life_check.specs.declared.report.CheckStop.{CheckStop}
use Rattle.life_check.specs.Report.{verdict_line, checked_lines, PutsVerdict, PutsChecked}
use Rattle.life_cli.specs.CheckedFiles.{CheckedFilesBegin}
use Rattle.life_archive.proofs.PathJobs.{job_leaves}

-- an answer Ok is not that of a stop
done_is_no_stop : {stop : CheckStop} {done : Unit {0}} → Ok done ≡ Err stop → ⊥
done_is_no_stop same = cc

whole_is_not_quick : false ≡ true → ⊥
whole_is_not_quick same = cc

append_none : {A : Type 0} (xs : List A) → xs ++ [] ≡ xs
append_none [] = refl
append_none (x ∷ xs) = ap (λ all. x ∷ all) (append_none xs)

-- without further errors it is one line
one_line : (v : CheckVerdict) (further : List Wrong) → further ≡ [] → checked_lines v further ≡ verdict_line v
one_line v further none = ap (checked_lines v) none ∙ append_none (verdict_line v)

closed_is : {A : Type 0} (left : Option (Result A A)) (x y : A) → left ≡ Some (Ok x) → left ≡ Some (Ok y) → x ≡ y
closed_is left x y one two = cc

module _ {D E : Type 0} (g : disk.Ghosts D) (h : disk.Ghosts E) (image again : Image) (capacity next : ℕ)
    (before after : Option (List ℕ)) (files : Files D) (left : Result (Files E) (Files E))
    (two : PathJob h again next left)
    (clean : AreClean g files.log files.db) (may : outcomes g files.log files.db again) where
  -- the verdict was sound
  begins : (v : CheckVerdict) (further : List Wrong) → AreFurther (Ok v) further
      → PutsVerdict v further before after (Ok tt)
      → (one : IsPathCheck false g image capacity (Ok v) further files)
      → (A : Archive) × Appends before after (verdict_line (Sound (length A.deposits) (length A.censuses)))
      × LeavesOne h (BecomesBy two (under next A)) left
  begins (NotSound w) further few puts one = elim puts [
    | inl it ↦ absurd (done_is_no_stop it.0)
    | inr others ↦ elim others [ inl it ↦ absurd (done_is_no_stop it.0) | inr it ↦ absurd (done_is_no_stop it) ]
  ]
  begins (SoundButForCounts d c) further few puts one = absurd (whole_is_not_quick (one.finds clean).6)
  begins (Sound d c) further few puts one = elim puts [
    | inl it ↦ let found = one.finds clean in (
      found.0,
      subst₂ (λ (x y : ℕ). Appends before after (verdict_line (Sound x y))) (sym found.2) (sym found.3)
          (subst (Appends before after) (one_line (Sound d c) further few) it.1),
      job_leaves h again next left two (under next found.0) refl
          (inl (each_of one.opened found.0 found.1, found.4 again may)),
    )
    | inr others ↦ elim others [ inl it ↦ absurd (done_is_no_stop it.0) | inr it ↦ absurd (done_is_no_stop it) ]
  ]

  begins_with : (checked : Result CheckVerdict Failed) (further : List Wrong)
      → ChecksPath false g image capacity checked further (Some (Ok files)) → AreFurther checked further
      → PutsChecked checked further before after (Ok tt)
      → (A : Archive) × Appends before after (verdict_line (Sound (length A.deposits) (length A.censuses)))
      × LeavesOne h (BecomesBy two (under next A)) left
  begins_with (Err e) further checks few puts = absurd (done_is_no_stop puts)
  begins_with (Ok v) further checks few puts = elim checks [
    | inl unopened ↦ absurd (let same : Ok v ≡ Err unopened.0 = unopened.1 in cc)
    | inr one ↦
        begins v further few puts (subst (λ (all : Files D). IsPathCheck false g image capacity (Ok v) further all)
        (closed_is (Some (Ok files)) one.0 files one.1 refl) one.2)
  ]

pub checked_files_begin : {D E : Type 0} (g : disk.Ghosts D) (h : disk.Ghosts E) → CheckedFilesBegin g h
checked_files_begin g h image again capacity next before after files left done two clean may =
    begins_with g h image again capacity next before after files left two clean may done.0 done.1 done.2 done.3 done.4
