use Rattle.std.proofs.Common.{◌≡◌, ◌∙◌, true, false, refl, sym}
use Rattle.sqlite_wal.specs.Reads.{AreClean}
use Rattle.sqlite.specs.Files.{file_state, image_of}
use Rattle.life_store.specs.Opening.{is_capacity}
use Rattle.life_store.proofs.OpenedLemmas.{left_alone, left_unopened, left_made_of}
use Rattle.life_store.proofs.SchemaLemmas.{opens_held, opens_migrated, opens_fresh, opens_known, opens_ours}
use Rattle.life_store.proofs.SchemaLemmas.{opens_clean, opens_versions, opens_none, healthy_then, errs_not, errs_never}
use Rattle.life_store.proofs.SchemaLemmas.{capacity_fits, bad_not_ours, unavailable_not_bad, unavailable_not_ours}
use Rattle.life_store.proofs.opening.Archive+FileStore+D.open_files.Goals as goal

pub returns-then-not-is_capacity-clause-bad : goal.returns-then-not-is_capacity-clause-bad
returns-then-not-is_capacity-clause-bad g c = (λ _. sym c.is_capacity.ensures ∙ c.if-not-is_capacity.true, λ _. refl)

pub returns-then-not-is_capacity-clause-back : goal.returns-then-not-is_capacity-clause-back
returns-then-not-is_capacity-clause-back g c is = refl

pub returns-then-not-is_capacity-clause-ours : goal.returns-then-not-is_capacity-clause-ours
returns-then-not-is_capacity-clause-ours g c k clean hold = bad_not_ours

pub returns-then-not-is_capacity-clause-versions : goal.returns-then-not-is_capacity-clause-versions
returns-then-not-is_capacity-clause-versions g c schema own known clean have = bad_not_ours

pub returns-then-not-is_capacity-clause-none : goal.returns-then-not-is_capacity-clause-none
returns-then-not-is_capacity-clause-none g c clean nothing = bad_not_ours

pub returns-then-not-is_capacity-clause-clean : goal.returns-then-not-is_capacity-clause-clean
returns-then-not-is_capacity-clause-clean g c clean is = absurd (bad_not_ours is)

pub returns-in-Err-clause-bad : goal.returns-in-Err-clause-bad
returns-in-Err-clause-bad g c =
    let fits : is_capacity c.args.capacity ≡ true = sym c.is_capacity.ensures ∙ c.if-not-is_capacity.false in
    (λ is. absurd (unavailable_not_bad is), λ bad. absurd (let e : true ≡ false = sym fits ∙ bad in cc))

pub returns-in-Err-clause-back : goal.returns-in-Err-clause-back
returns-in-Err-clause-back g c is = absurd (unavailable_not_bad is)

pub returns-in-Err-clause-ours : goal.returns-in-Err-clause-ours
returns-in-Err-clause-ours g c k clean hold = unavailable_not_ours

pub returns-in-Err-clause-versions : goal.returns-in-Err-clause-versions
returns-in-Err-clause-versions g c schema own known clean have = unavailable_not_ours

pub returns-in-Err-clause-none : goal.returns-in-Err-clause-none
returns-in-Err-clause-none g c clean nothing = unavailable_not_ours

pub returns-in-Err-clause-clean : goal.returns-in-Err-clause-clean
returns-in-Err-clause-clean g c clean is = absurd (unavailable_not_ours is)

pub returns-in-Ok-clause-capacity : goal.returns-in-Ok-clause-capacity
returns-in-Ok-clause-capacity g c =
    capacity_fits c.archive_over.result c.args.capacity
    (sym c.is_capacity.ensures ∙ c.if-not-is_capacity.false) c.archive_over.ensures.capacity

pub returns-in-Ok-clause-found : goal.returns-in-Ok-clause-found
returns-in-Ok-clause-found g c =
    opens_held (file_state c.in-Ok.conn) (image_of g.D.Disk c.args.files) c.in-Ok.ensures.opened c.archive_over.result
    (λ clean. (c.in-Ok.ensures.found clean).holds) c.archive_over.ensures.clean c.archive_over.ensures.found

pub returns-in-Ok-clause-migrated : goal.returns-in-Ok-clause-migrated
returns-in-Ok-clause-migrated g c =
    opens_migrated (file_state c.in-Ok.conn)
    (image_of g.D.Disk c.args.files) c.in-Ok.ensures.opened c.archive_over.result
    (λ clean. (c.in-Ok.ensures.found clean).holds) c.archive_over.ensures.clean c.archive_over.ensures.carries

pub returns-in-Ok-clause-fresh : goal.returns-in-Ok-clause-fresh
returns-in-Ok-clause-fresh g c =
    opens_fresh (file_state c.in-Ok.conn) (image_of g.D.Disk c.args.files) c.in-Ok.ensures.opened c.archive_over.result
    (λ clean. (c.in-Ok.ensures.found clean).reads) c.archive_over.ensures.clean c.archive_over.ensures.fresh

pub returns-in-Ok-clause-bad : goal.returns-in-Ok-clause-bad
returns-in-Ok-clause-bad g c =
    errs_never c.archive_over.result (is_capacity c.args.capacity)
    (sym c.is_capacity.ensures ∙ c.if-not-is_capacity.false) c.archive_over.ensures.fits

pub returns-in-Ok-clause-back : goal.returns-in-Ok-clause-back
returns-in-Ok-clause-back g c =
    errs_not c.archive_over.result (λ files. files ≡ c.args.files) c.archive_over.ensures.fits

pub returns-in-Ok-clause-honest : goal.returns-in-Ok-clause-honest
returns-in-Ok-clause-honest g c =
    healthy_then (file_state c.in-Ok.conn) (AreClean g.D.Disk c.args.files.log c.args.files.db) c.archive_over.result
    (λ clean. (c.in-Ok.ensures.found clean).honest) c.archive_over.ensures.clean

pub returns-in-Ok-clause-known : goal.returns-in-Ok-clause-known
returns-in-Ok-clause-known g c =
    opens_known (file_state c.in-Ok.conn) (image_of g.D.Disk c.args.files) c.in-Ok.ensures.opened c.archive_over.result
    (λ clean. (c.in-Ok.ensures.found clean).holds) c.archive_over.ensures.clean c.archive_over.ensures.known

pub returns-in-Ok-clause-ours : goal.returns-in-Ok-clause-ours
returns-in-Ok-clause-ours g c =
    opens_ours (file_state c.in-Ok.conn) (image_of g.D.Disk c.args.files) c.in-Ok.ensures.opened
    (λ clean. (c.in-Ok.ensures.found clean).holds)
    (λ files. AreClean g.D.Disk files.log files.db) c.archive_over.result c.archive_over.ensures.ours

pub returns-in-Ok-clause-versions : goal.returns-in-Ok-clause-versions
returns-in-Ok-clause-versions g c =
    opens_versions (file_state c.in-Ok.conn) (image_of g.D.Disk c.args.files) c.in-Ok.ensures.opened
    (λ clean. (c.in-Ok.ensures.found clean).holds)
    (λ files. AreClean g.D.Disk files.log files.db) c.archive_over.result c.archive_over.ensures.ours

pub returns-in-Ok-clause-none : goal.returns-in-Ok-clause-none
returns-in-Ok-clause-none g c =
    opens_none (file_state c.in-Ok.conn) (image_of g.D.Disk c.args.files) c.in-Ok.ensures.opened
    (λ clean. (c.in-Ok.ensures.found clean).holds) (λ files. AreClean g.D.Disk files.log files.db) c.archive_over.result
    c.archive_over.ensures.ours (λ clean. (c.in-Ok.ensures.found clean).reads) c.archive_over.ensures.none

pub returns-in-Ok-clause-clean : goal.returns-in-Ok-clause-clean
returns-in-Ok-clause-clean g c =
    opens_clean (file_state c.in-Ok.conn) (image_of g.D.Disk c.args.files) c.in-Ok.ensures.opened
    (λ clean. (c.in-Ok.ensures.found clean).holds) (λ files. AreClean g.D.Disk files.log files.db)
    (AreClean g.D.Disk c.args.files.log c.args.files.db) c.archive_over.result
    (λ clean. (c.in-Ok.ensures.found clean).honest) c.archive_over.ensures.ours

pub returns-then-not-is_capacity-clause-unharmed : goal.returns-then-not-is_capacity-clause-unharmed
returns-then-not-is_capacity-clause-unharmed g c = left_alone g.D.Disk c.args.files

pub returns-in-Err-clause-unharmed : goal.returns-in-Err-clause-unharmed
returns-in-Err-clause-unharmed g c =
    left_unopened c.args.files c.into_files.result c.in-Err.left c.into_files.ensures c.in-Err.ensures.unharmed

pub returns-in-Ok-clause-unharmed : goal.returns-in-Ok-clause-unharmed
returns-in-Ok-clause-unharmed g c =
    left_made_of c.in-Ok.conn c.args.files c.archive_over.result g.met.D.Disk.seen_may_stay
    c.in-Ok.ensures.opened c.in-Ok.ensures.found c.archive_over.ensures.made
