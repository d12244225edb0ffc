use Rattle.net_names.proofs.joining.flat_project.Goals as goal

pub returns-clause-conductors : goal.returns-clause-conductors
returns-clause-conductors c = rw c.in_ok-objects.ensures at c.flatten.ensures.conductors

pub returns-clause-parts : goal.returns-clause-parts
returns-clause-parts c = rw c.in_ok-objects.ensures at c.flatten.ensures.parts
