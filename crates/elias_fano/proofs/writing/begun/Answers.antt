use Rattle.elias_fano.proofs.writing.begun.Goals as goal
