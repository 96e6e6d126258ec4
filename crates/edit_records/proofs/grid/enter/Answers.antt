use Rattle.std.specs.Prelude.{Result, Ok, Err, OnOk, OnErr}
use Rattle.edit_records.specs.Gridded.{string_entries, point_entries}
use Rattle.edit_records.proofs.Exchanges.{can-enter, entered, same-just}
use Rattle.edit_records.proofs.grid.enter.Goals as goal

pub put_all-requires-clause-strings : goal.put_all-requires-clause-strings
put_all-requires-clause-strings c =
    let r = c.requires in
    can-enter (string_entries r.0) (string_entries r.2) c.args.grid.now.strings c.args.come.now.strings r.4.strings_come r.3.strings

pub put_all-requires-clause-points : goal.put_all-requires-clause-points
put_all-requires-clause-points c =
    let r = c.requires in
    can-enter (point_entries r.0) (point_entries r.2) c.args.grid.now.points c.args.come.now.points r.4.points_come r.3.points

both-ok : {T E A B C : Type 0} (r : Result T E) → (A → B → C) → OnOk r A → OnOk r B → OnOk r C
both-ok (Ok t) f a b = f a b
both-ok (Err e) f a b = tt

both-err : {T E A B C : Type 0} (r : Result T E) → (A → B → C) → OnErr r A → OnErr r B → OnErr r C
both-err (Ok t) f a b = tt
both-err (Err e) f a b = f a b

pub returns-clause-both : goal.returns-clause-both
returns-clause-both c =
    both-ok c.put_all.result (λ strings points old new gone is x. record {
      strings = entered (string_entries old) (string_entries new) c.args.grid.now.strings c.args.come.now.strings x.strings_come is.strings c.put_all.new.self.strings strings;
      points = entered (point_entries old) (point_entries new) c.args.grid.now.points c.args.come.now.points x.points_come is.points c.put_all.new.self.points points;
    }) c.put_all.ensures.put_strings c.put_all.ensures.put_points

pub returns-clause-err : goal.returns-clause-err
returns-clause-err c =
    both-err c.put_all.result (λ strings points old is. record {
      strings = same-just (string_entries old) c.args.grid.now.strings c.put_all.new.self.strings strings is.strings;
      points = same-just (point_entries old) c.args.grid.now.points c.put_all.new.self.points points is.points;
    }) c.put_all.ensures.err_strings c.put_all.ensures.err_points
