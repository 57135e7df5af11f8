use Rattle.life_archive.proofs.SessionLemmas.{one_untold, none_came}
use Rattle.life_cli.proofs.net.serve_next.Goals as goal

pub returns-in_default : goal.returns-in_default
returns-in_default g c = λ n. none_came g.S.Store _ n

pub returns : goal.returns
returns g c = λ n. one_untold g.S.Store _ _ _ _ c.serve-served.result n c.serve-served.ensures.steps

pub returns-in_default-accept : goal.returns-in_default-accept
returns-in_default-accept g c = λ n. none_came g.S.Store _ n
