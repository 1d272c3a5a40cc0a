use Rattle.history_core.proofs.FileLaws.{v_file_bytes-of, v_file_bytes-later}
use Rattle.history_core.proofs.laws.file_laws.Goals as goal

pub returns-clause-bytes : goal.returns-clause-bytes
returns-clause-bytes c = λ size changes e from to file is. (v_file_bytes-of size changes e from to file is).0

pub returns-clause-accessor : goal.returns-clause-accessor
returns-clause-accessor c = λ size changes e from to file is. (v_file_bytes-of size changes e from to file is).1

pub returns-clause-stays : goal.returns-clause-stays
returns-clause-stays c = λ size cs ds e from to late. (v_file_bytes-later size cs ds e from to late).0

pub returns-clause-accessor_stays : goal.returns-clause-accessor_stays
returns-clause-accessor_stays c = λ size cs ds e from to late. (v_file_bytes-later size cs ds e from to late).1
