-- The texts of the record's statements.
use Rattle.std.proofs.Common.{List, codes, ℕ}

abbrev pub select_image : List ℕ
select_image = codes "SELECT image FROM handlers WHERE h = ?1"

abbrev pub put_image : List ℕ
put_image = codes "INSERT INTO handlers (h, image) VALUES (?1, ?2) ON CONFLICT (h) DO UPDATE SET image = excluded.image"

abbrev pub select_inc : List ℕ
select_inc = codes "SELECT inc FROM clients WHERE c = ?1"

abbrev pub put_inc : List ℕ
put_inc = codes "INSERT INTO clients (c, inc) VALUES (?1, ?2) ON CONFLICT (c) DO UPDATE SET inc = excluded.inc"

abbrev pub create_meta : List ℕ
create_meta = codes "CREATE TABLE meta (id INTEGER PRIMARY KEY, version INTEGER NOT NULL) STRICT"

abbrev pub create_handlers : List ℕ
create_handlers = codes "CREATE TABLE handlers (h INTEGER PRIMARY KEY, image BLOB NOT NULL) STRICT"

abbrev pub create_clients : List ℕ
create_clients = codes "CREATE TABLE clients (c INTEGER PRIMARY KEY, inc INTEGER NOT NULL) STRICT"

abbrev pub put_version : List ℕ
put_version = codes "INSERT INTO meta (id, version) VALUES (1, ?1)"

abbrev pub select_version : List ℕ
select_version = codes "SELECT version FROM meta WHERE id = 1"

abbrev pub select_entries : List ℕ
select_entries = codes "SELECT entries FROM pending WHERE h = ?1"

abbrev pub put_entries : List ℕ
put_entries = codes "INSERT INTO pending (h, entries) VALUES (?1, ?2) ON CONFLICT (h) DO UPDATE SET entries = excluded.entries"

abbrev pub create_pending : List ℕ
create_pending = codes "CREATE TABLE pending (h INTEGER PRIMARY KEY, entries BLOB NOT NULL) STRICT"

abbrev pub select_images : List ℕ
select_images = codes "SELECT h, image FROM handlers ORDER BY h"

abbrev pub raise_version : List ℕ
raise_version = codes "UPDATE meta SET version = ?1 WHERE id = 1"
