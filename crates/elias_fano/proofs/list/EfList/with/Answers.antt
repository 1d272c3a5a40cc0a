use Rattle.elias_fano.proofs.list.EfList.with.Goals as goal
