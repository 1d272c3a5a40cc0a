use Rattle.elias_fano.proofs.writing.fill_byte.Goals as goal
