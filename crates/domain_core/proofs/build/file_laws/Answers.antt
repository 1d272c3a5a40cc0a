use Rattle.domain_core.proofs.KvFileLaws.{kv_file_bytes-of, bt_file_bytes-of, kvi_file_bytes-of, kv_file_bytes-later, bt_file_bytes-later, kvi_file_bytes-later}
use Rattle.domain_core.proofs.build.file_laws.Goals as goal

pub returns-clause-bytes : goal.returns-clause-bytes
returns-clause-bytes c = kv_file_bytes-of

pub returns-clause-stays : goal.returns-clause-stays
returns-clause-stays c = kv_file_bytes-later

pub returns-clause-bt_bytes : goal.returns-clause-bt_bytes
returns-clause-bt_bytes c = bt_file_bytes-of

pub returns-clause-bt_stays : goal.returns-clause-bt_stays
returns-clause-bt_stays c = bt_file_bytes-later

pub returns-clause-kvi_bytes : goal.returns-clause-kvi_bytes
returns-clause-kvi_bytes c = kvi_file_bytes-of

pub returns-clause-kvi_stays : goal.returns-clause-kvi_stays
returns-clause-kvi_stays c = kvi_file_bytes-later
