use Rattle.std.proofs.Common.{rules, ◌≡◌}
use Rattle.std.specs.Prelude.{is_ok}
use Rattle.life_check.proofs.NameLemmas.{names_checked}
use Rattle.life_check.proofs.checked_rows.are_valid_names.Goals as goal

pub returns : goal.returns
returns c =
    let is : c.is_ok.result ≡ is_ok c.check_deposit.result = search rules in
    names_checked c.as_bytes.result.now c.as_bytes-2.result.now c.args.member.now c.args.token.now
    c.check_deposit.result c.is_ok.result (search rules) (search rules) c.check_deposit.ensures is
