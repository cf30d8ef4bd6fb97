use Rattle.raid_conf.proofs.tables.+choose.Given as goal

abbrev pub decreases-choose : goal.decreases-choose
decreases-choose l = l.n
