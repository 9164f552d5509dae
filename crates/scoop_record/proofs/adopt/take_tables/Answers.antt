use Rattle.std.proofs.Common.{◌≡◌, Option, Some, pos, [], ◌∷◌, codes, subst, sym, ap, arith, ◌∙◌, inr, inl}
use Rattle.sqlite_value.specs.declared.value.Value.{Value}
use Rattle.sqlite.specs.Effect.{Database}
use Rattle.sqlite.specs.Schema.{Schema}
use Rattle.sqlite.specs.Held.{state}
use Rattle.sqlite.proofs.StateLemmas.{survives_then}
use Rattle.scoop_record.specs.Migrate.{HasOtherNumber, IsLowestBad, Migrates}
use Rattle.scoop_record.specs.Store.{IsSound, TellsVersion, version_in}
use Rattle.scoop_record.specs.Among.{IsFree, HasRoom, HasFirstTables, HasRecordTables, meta_tree}
use Rattle.scoop_record.proofs.StatementLemmas.{clean_before}
use Rattle.scoop_record.specs.Tables.{value_at}
use Rattle.scoop_record.proofs.StoredLemmas.{version_stands}
use Rattle.std.proofs.lemmas.Int.{ints}
use Rattle.scoop_record.proofs.adopt.take_tables.Goals as goal

abbrev version_row : Database → Option Value
version_row db = value_at (db.trees (meta_tree db.schema)) 1

pub returns-then-has_room_for_pending-clause-survives : goal.returns-then-has_room_for_pending-clause-survives
returns-then-has_room_for_pending-clause-survives g c =
    let before = state g.S.Store c.args.conn.now in
    let read = state g.S.Store c.version.new.conn in
    let after = state g.S.Store c.migrate.new.conn in
    survives_then before read after _ _ _ (λ clean trees none. absurd none)
    (λ clean trees (opened, db, moves, is).
    let sound : IsSound read = (clean_before read after _ c.migrate.ensures.survives clean, opened) in
    let same = (c.version.ensures.same sound).0 ∙ sym (c.requires.settled (c.version.ensures.sound sound)) in
    (db, subst (λ d. Migrates d db) same moves, is))
    c.version.ensures.survives c.migrate.ensures.survives

pub migrate-requires-clause-first : goal.migrate-requires-clause-first
unfolding TellsVersion
migrate-requires-clause-first g c sound =
    let before = state g.S.Store c.args.conn.now in
    let read = state g.S.Store c.version.new.conn in
    let has = subst (λ (s : Schema). HasFirstTables s × IsFree s (codes "pending")) c.schema-then-found-eq1.ensures.value
    (c.is_first_schema.ensures c.if-is_first_schema.true) in
    let room = subst (λ (s : Schema). HasRoom s (codes "pending" ∷ [])) c.schema-then-is_first_schema.ensures.value
    (c.has_room_for_pending.ensures.0 c.if-has_room_for_pending.true) in
    let same : read.now ≡ before.now = (c.version.ensures.same sound).0 ∙ sym (c.requires.settled (c.version.ensures.sound sound)) in
    let told = c.in_ok-found.ensures.version sound.0 (subst (λ (d : Database). HasFirstTables d.schema) same has.0) in
    let one : c.in-Some.found ≡ pos 1 = grind (arith, ints) in
    ((has, ap version_row same ∙ version_stands _ (pos 1) (subst (λ n. Some n ≡ version_in before.now) one (rw c.in-Some.is at told))), room)

pub returns-then-is_record_schema-clause-adopted : goal.returns-then-is_record_schema-clause-adopted
unfolding TellsVersion
returns-then-is_record_schema-clause-adopted g c sound =
    let before = state g.S.Store c.args.conn.now in
    let read = state g.S.Store c.version.new.conn in
    let has = subst HasRecordTables c.schema.ensures.value (c.is_record_schema.ensures c.if-is_record_schema.true) in
    let same : read.now ≡ before.now = (c.version.ensures.same sound).0 ∙ sym (c.requires.settled (c.version.ensures.sound sound)) in
    let told = c.in_ok-found.ensures.version sound.0 (subst (λ (d : Database). HasFirstTables d.schema) same has.first) in
    let two : c.in-Some.found ≡ pos 2 = grind (arith, ints) in
    record {
      sound = has;
      version = ap version_row same ∙ version_stands _ (pos 2) (subst (λ n. Some n ≡ version_in before.now) two (rw c.in-Some.is at told));
      kept = inl same;
    }

-- the version is 1, and no record of version 2 is taken
pub returns-then-is_record_schema-clause-open_behind : goal.returns-then-is_record_schema-clause-open_behind
unfolding TellsVersion
returns-then-is_record_schema-clause-open_behind g c first clean =
    let told = rw first.1 at (rw c.in-Some.is at (c.in_ok-found.ensures.version clean first.0.0)) in
    let two : c.in-Some.found ≡ pos 2 = grind (arith, ints) in
    absurd (grind (arith, ints))

pub returns-then-has_room_for_pending-clause-bad : goal.returns-then-has_room_for_pending-clause-bad
returns-then-has_room_for_pending-clause-bad g c sound handler is =
    let read = c.migrate.ensures.sound sound in
    let same = (c.version.ensures.same read).0 ∙ sym (c.requires.settled (c.version.ensures.sound read)) in
    subst (λ (d : Database). IsLowestBad d handler.0) same (c.migrate.ensures.bad sound handler is)

pub returns-then-has_room_for_pending-clause-wrong : goal.returns-then-has_room_for_pending-clause-wrong
returns-then-has_room_for_pending-clause-wrong g c sound is laid =
    let read = c.migrate.ensures.sound sound in
    let same = (c.version.ensures.same read).0 ∙ sym (c.requires.settled (c.version.ensures.sound read)) in
    inr (subst HasOtherNumber same (c.migrate.ensures.wrong sound is))

pub returns-in_default-clause-wrong : goal.returns-in_default-clause-wrong
unfolding TellsVersion
returns-in_default-clause-wrong g c sound is laid =
    let told = rw c.in_default.is at (c.in_ok-found.ensures.version sound.0 laid) in
    inl (λ e. absurd (let f = told ∙ e in cc), λ e. absurd (let f = told ∙ e in cc))

pub returns-then-found-ne2-clause-wrong : goal.returns-then-found-ne2-clause-wrong
unfolding TellsVersion
returns-then-found-ne2-clause-wrong g c sound is laid =
    let told = rw c.in-Some.is at (c.in_ok-found.ensures.version sound.0 laid) in
    inl (
      λ e. let f = told ∙ e in let one : c.in-Some.found ≡ pos 1 = cc in absurd (grind (arith, ints)),
      λ e. let f = told ∙ e in let two : c.in-Some.found ≡ pos 2 = cc in absurd (grind (arith, ints)),
    )
