use Rattle.std.proofs.Common.{rules, SFits, w64, to_z-of_z}
use Rattle.life_code.proofs.ApartParts.{orbit_known}
use Rattle.life_code.proofs.apart.known_orbit.Goals as goal

pub returns-in-Some : goal.returns-in-Some
returns-in-Some g c =
    let m = c.moving-item.result in
    let fits_column : SFits w64 c.in-Some.column = search rules in
    let fits_row : SFits w64 c.in-Some.row = search rules in
    let fits_dx : SFits w64 m.orbit.dx = search rules in
    let fits_dy : SFits w64 m.orbit.dy = search rules in
    orbit_known c.args.rule.now c.args.known.now m c.args.part.now c.loop-moving.moving-index
    c.in-Some.column c.in-Some.row _ _ _ _ c.in_ok-frame.frame c.requires c.loop-moving-test.true c.moving-item.is
    (to_z-of_z fits_column) (to_z-of_z fits_row) (to_z-of_z fits_dx)
    (to_z-of_z fits_dy) c.in-Some.ensures.1 c.in_ok-frame.ensures
