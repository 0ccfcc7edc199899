use Rattle.rings.proofs.tables.+mirrored.Given as goal

abbrev pub decreases-mirrored : goal.decreases-mirrored
decreases-mirrored l = l.s
