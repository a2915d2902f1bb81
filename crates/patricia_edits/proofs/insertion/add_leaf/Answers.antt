use Rattle.patricia_edits.proofs.insertion.add_leaf.Goals as goal

pub returns-in-Less-clause-adds : goal.returns-in-Less-clause-adds
returns-in-Less-clause-adds g c = (
  λ is. rw c.some.ensures at c.add.ensures.adds,
  λ not_less. absurd
      (not_less c.in-Less.is),
)

pub returns-in_default-clause-adds : goal.returns-in_default-clause-adds
returns-in_default-clause-adds g c = (
  λ is. absurd (c.in_default.not-Less is),
  λ not_less. rw c.none.ensures at c.add-in_default.ensures.adds,
)
