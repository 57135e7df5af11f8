use Rattle.life_check.proofs.schemas.TermsSame.is_same.Goals as goal

pub returns : goal.returns
returns c =
    rw (
      ← c.self.view_is,
      ← c.other.view_is,
      ← c.as_slice.ensures,
      ← c.as_slice-2.ensures,
      ← c.as_slice-3.ensures,
      ← c.as_slice-4.ensures,
    ) c.has_same_terms.ensures
