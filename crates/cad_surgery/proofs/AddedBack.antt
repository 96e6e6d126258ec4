-- A parcel that came by a division or an enclosure, taken out again by its record.
use Rattle.std.proofs.Common.{◌≡◌, ◌<◌, ◌≤◌, ◌+◌, ◌*◌, refl, sym, ap, subst, ◌∙◌, List, [], ◌∷◌, map, length, true, if◌then◌else◌, arith}
use Rattle.std.specs.Prelude.{Result, Ok, Err, IsErr, OnOk, OnErr}
use Rattle.std.proofs.lemmas.List.{length-map}
use Rattle.cad_rows.specs.declared.names.Face.TheVariants.{Parcel}
use Rattle.cad_map.specs.Asked.{GivesInRange}
use Rattle.cad_map.specs.Costs.{work_bound}
use Rattle.cad_map.specs.Effects.{after}
use Rattle.cad_map.specs.Map.{Map, has_string}
use Rattle.cad_map.specs.Refusals.{first_refusal}
use Rattle.cad_map.specs.Rings.{HasWholeRings}
use Rattle.cad_map.proofs.CallerLemmas.{whole_valid}
use Rattle.half_table.specs.declared.half.Half.{Half}
use Rattle.half_table.specs.Count.{greatest, ticked}
use Rattle.half_table.specs.Half.{forward_of, twin}
use Rattle.half_table.specs.Rows.{Table, has, cycle, next}
use Rattle.half_paths.specs.Path.{AreDifferent, strings_of}
use Rattle.half_paths.specs.Loose.{is_of, AreLoose, DropsStrings}
use Rattle.key_lists.specs.Held.{Held}
use Rattle.cad_laws.specs.Tried.{IsTried}
use Rattle.edit_records.specs.declared.record.SmallRecord.{SmallRecord}
use Rattle.edit_records.specs.HeldChains.{HeldIsland}
use Rattle.edit_records.specs.Record.{edit_of, Belongs, Holds}
use Rattle.cad_surgery.specs.declared.draft.Draft.TheInside.{Inside}
use Rattle.cad_surgery.specs.declared.edits.added.Added.{Added}
use Rattle.cad_surgery.specs.declared.edits.adding.Course.{Course}
use Rattle.cad_surgery.specs.declared.edits.given.NewParcel.{NewParcel}
use Rattle.cad_surgery.specs.declared.edits.merging.Way.{Way}
use Rattle.cad_surgery.specs.declared.edits.merging.Way.TheVariants as way
use Rattle.cad_surgery.specs.AddedParcels.{CanGoOut, GoesOut, HeldParcel, IsAddedBy, IsFound, TellsAdded}
use Rattle.cad_surgery.specs.Divisions.{divided_by}
use Rattle.cad_surgery.specs.Enclosures.{enclosed_by}
use Rattle.cad_surgery.specs.NewParcels.{edit_by, ticks_by, ticks_out}
use Rattle.cad_surgery.specs.Proper.{IsProper}
use Rattle.cad_surgery.specs.Trials.{IsTakenBack}
use Rattle.cad_surgery.specs.Work.{TakesWork}
use Rattle.cad_map.specs.declared.map_rows.MapRows.{MapRows}
use Rattle.map_parts.specs.declared.stars.Spoke.{Spoke}
use Rattle.map_parts.specs.Dividing.{CanBeginUndivide, divided}
use Rattle.map_parts.specs.Enclosing.{CanBeginOpen, enclosed}
use Rattle.map_parts.specs.Parts.{Parts, FitTogether, map_of, kept_at}
use Rattle.map_parts.specs.Paths.{HasStringsMore}
use Rattle.map_parts.specs.Relabelled.{cycles_length}
use Rattle.map_parts.specs.Splitting.{FitMap}
use Rattle.cad_surgery.proofs.ComingParcels.{added-edit, added-held}
use Rattle.cad_surgery.proofs.DividedBack as along
use Rattle.cad_surgery.proofs.DraftFits.{draft-fits, draft-all, draft-work}
use Rattle.cad_surgery.proofs.EnclosedDraft as encloses
use Rattle.cad_surgery.proofs.FitParts.{parts, parts-in, GoWith, at-rest, stand-for}
use Rattle.cad_surgery.proofs.GridSteps.{stood}
use Rattle.cad_surgery.proofs.LooseBeside as unseen
use Rattle.cad_surgery.proofs.LooseBeside.{AreHidden, more-beside}
use Rattle.cad_surgery.proofs.OpenedDraft as round
use Rattle.cad_surgery.proofs.ParcelsTried.{new-work}
use Rattle.cad_surgery.proofs.Trials.{stays-made}
use Rattle.cad_surgery.proofs.WorkTaken.{ticks-just, ticks-then}

-- ---- On the parts of the map after it

module _ {m : Map} {w : Way} {d : NewParcel} {path moved : List Half} {rows : MapRows} {table : Table} {held : Held Half} {stars : Held Spoke}
    {first : Half} {others : List Half} (parted : path ≡ first ∷ others) (can : CanGoOut m w d path moved rows table held stars) where
  -- it can go, with its chain
  pub out-along : {start end : Half} → w ≡ way.Along start end
      → (c : CanBeginUndivide d.face d.strings.now d.parcel (first ∷ others) moved rows table.rows held stars) × (c.map ≡ m) × (divided c.is ≡ after m (divided_by d))
  out-along is = subst (λ (q : Way × List Half). IsFound q.0 q.1 m d moved rows table held stars) (λ i. (is i, parted i)) can.out

  -- or with its ring
  pub out-round : w ≡ way.Round → (c : CanBeginOpen d.face d.strings.now d.parcel (first ∷ others) moved rows table.rows held stars) × (c.map ≡ m) × (enclosed c.is ≡ after m (enclosed_by d))
  out-round is = subst (λ (q : Way × List Half). IsFound q.0 q.1 m d moved rows table held stars) (λ i. (is i, parted i)) can.out

  module _ {A E : Type 0} {r : Result A E} {at : MapRows} {t : Table} {put : Held Half} {wide : Held Spoke}
      (err_table : OnErr r (t ≡ table)) (loose : OnOk r (AreLoose (next t.rows) (first ∷ others))) (halves : (h : Half) → has t.rows h ≡ has table.rows h) where
    goes : {v : Way} → w ≡ v → {b n : Map} → (b ≡ m) × (n ≡ after m (edit_by v d)) → OnOk r (FitMap b at t.rows put wide) → OnErr r (FitMap n at t.rows put wide)
        → OnOk r (t.work ≡ ticked (ticks_out v (first ∷ others) moved table.rows) table.work) → GoesOut m w d path moved table at t put wide r
    goes is same fits err work = record {
      fits = subst (λ (q : Map). OnOk r (FitMap q at t.rows put wide)) same.0 fits;
      loose = subst (λ (l : List Half). OnOk r (AreLoose (next t.rows) l)) (sym parted) loose;
      work = subst (λ (q : Way × List Half). OnOk r (t.work ≡ ticked (ticks_out q.0 q.1 moved table.rows) table.work)) (λ i. (sym is i, sym parted i)) work;
      halves = halves;
      err = subst (λ (q : Map). OnErr r (FitMap q at t.rows put wide)) (same.1 ∙ (λ i. after m (edit_by (sym is i) d))) err;
      err_table = err_table;
    }

    pub goes-along : {start end : Half} → w ≡ way.Along start end
        → ((c : CanBeginUndivide d.face d.strings.now d.parcel (first ∷ others) moved rows table.rows held stars) → OnOk r (FitMap c.map at t.rows put wide))
        → ((c : CanBeginUndivide d.face d.strings.now d.parcel (first ∷ others) moved rows table.rows held stars) → OnErr r (FitMap (divided c.is) at t.rows put wide))
        → OnOk r (t.work ≡ ticked (cycles_length table.rows moved + (length (cycle table.rows first) + (length others + 2) + (2 + 2 * length others))) table.work)
        → GoesOut m w d path moved table at t put wide r
    goes-along is fits err work = let c = out-along is in goes is (c.1, c.2) (fits c.0) (err c.0) work

    pub goes-round : w ≡ way.Round
        → ((c : CanBeginOpen d.face d.strings.now d.parcel (first ∷ others) moved rows table.rows held stars) → OnOk r (FitMap c.map at t.rows put wide))
        → ((c : CanBeginOpen d.face d.strings.now d.parcel (first ∷ others) moved rows table.rows held stars) → OnErr r (FitMap (enclosed c.is) at t.rows put wide))
        → OnOk r (t.work ≡ ticked (cycles_length table.rows moved + (length (cycle table.rows (twin first)) + (length others + 1))) table.work)
        → GoesOut m w d path moved table at t put wide r
    goes-round is fits err work = let c = out-round is in goes is (c.1, c.2) (fits c.0) (err c.0) work

-- it was tried, so the map after it has whole rings, and its path has a first half
whole-by : (w : Way) {m : Map} (d : NewParcel) → IsTried m (edit_by w d) → HasWholeRings (after m (edit_by w d))
whole-by (way.Along start end) d tried = along.whole_now d tried refl
whole-by way.Round d tried = round.whole_now d tried refl

some-by : (w : Way) {m : Map} (d : NewParcel) → IsTried m (edit_by w d) → {path : List Half} → path ≡ map forward_of d.strings.now → 0 < length path
some-by (way.Along start end) d tried = along.path-some d tried
some-by way.Round d tried = encloses.path-some d tried

more-by : (w : Way) {m : Map} (d : NewParcel) → IsTried m (edit_by w d) → {path : List Half} → path ≡ map forward_of d.strings.now → HasStringsMore m (after m (edit_by w d)) path
more-by (way.Along start end) d tried path_is = along.more d tried path_is
more-by way.Round d tried path_is = round.more d tried path_is

differ-by : (w : Way) {m : Map} (d : NewParcel) → IsTried m (edit_by w d) → {path : List Half} → path ≡ map forward_of d.strings.now → AreDifferent path
differ-by (way.Along start end) d tried path_is = along.differ d tried path_is
differ-by way.Round d tried path_is = round.differ d tried path_is

-- where the record names its other rings, it can go, in so many ticks at the most
module _ {m : Map} (d : NewParcel) {moved : List Half} {rows : MapRows} (table : Table) {held : Held Half} {stars : Held Spoke} where
  begins-by : (w : Way) → IsTried m (edit_by w d) → {path : List Half} → path ≡ map forward_of d.strings.now → FitMap (after m (edit_by w d)) rows table.rows held stars
      → HeldIsland (after m (edit_by w d)) (Parcel d.parcel) d.points.now moved → IsFound w path m d moved rows table held stars
  begins-by (way.Along start end) tried path_is fits named = along.begins d tried path_is fits named
  begins-by way.Round tried path_is fits named = round.begins d tried path_is fits named

  few-by : (w : Way) → IsTried m (edit_by w d) → (path : List Half) → path ≡ map forward_of d.strings.now → FitMap (after m (edit_by w d)) rows table.rows held stars
      → HeldIsland (after m (edit_by w d)) (Parcel d.parcel) d.points.now moved → ticks_out w path moved table.rows ≤ ticks_by m w d
  few-by (way.Along start end) tried [] path_is fits named = omega arith
  few-by way.Round tried [] path_is fits named = omega arith
  few-by (way.Along start end) tried (first ∷ others) path_is fits named =
      let rings = along.all-rings d tried path_is fits named first others refl in
      let long = ap length path_is ∙ length-map d.strings.now forward_of in
      omega (arith, rings, long)
  few-by way.Round tried (first ∷ others) path_is fits named =
      let rings = round.rings-few d tried path_is fits named in
      let outside = rings.0 in
      let other = rings.1 in
      let long = ap length path_is ∙ length-map d.strings.now forward_of in
      omega (arith, outside, other, long)

-- ---- On a draft

module _ {T : Type 0} (inside : Inside T) {v : Parts} (view : parts-in inside ≡ v) (fit : FitTogether (parts-in inside)) (rest : IsProper (map_of v) v.table.rows (kept_at v))
    (d : NewParcel) (k : Course) (path_is : k.path.now ≡ map forward_of d.strings.now) where
  abbrev Was : Map → Type 0
  Was m = IsAddedBy k.way m (map_of v) d k.moved.now

  module _ {m : Map} (it : Was m) where
    abbrev now : Map
    now = after m (edit_by k.way d)

    whole_now : HasWholeRings now
    whole_now = whole-by k.way d it.tried

    fits : FitMap now inside.rows inside.table.rows inside.kept inside.stars
    fits =
        subst (λ (q : Map). FitMap q inside.rows inside.table.rows inside.kept inside.stars) it.is
        (draft-fits inside.rows inside.table inside.kept inside.stars inside.grid v view fit (subst HasWholeRings (sym it.is) whole_now))

    all : (h : Half) → has inside.table.rows h ≡ has_string now h.string
    all h = draft-all inside.rows inside.table inside.kept inside.stars inside.grid v view rest h ∙ ap (λ (q : Map). has_string q h.string) it.is

    named : HeldIsland now (Parcel d.parcel) d.points.now k.moved.now
    named = subst (λ (q : Map). HeldIsland q (Parcel d.parcel) d.points.now k.moved.now) it.is it.named

    pub begins : CanGoOut m k.way d k.path.now k.moved.now inside.rows inside.table inside.kept inside.stars
    begins = record { some = some-by k.way d it.tried path_is; out = begins-by d inside.table k.way it.tried path_is fits named }

  module _ {A E : Type 0} {at : MapRows} {t : Table} {put : Held Half} {wide : Held Spoke} where
    -- where memory ran out
    module _ {f : E} (out : (m : Map) → CanGoOut m k.way d k.path.now k.moved.now inside.rows inside.table inside.kept inside.stars
        → GoesOut {A = A} m k.way d k.path.now k.moved.now inside.table at t put wide (Err f)) where
      pub stays : {m : Map} → Was m → GoWith (after m (edit_by k.way d)) at t put wide
      stays {m} it = record { whole = whole_now it; fits = (out m (begins it)).err }

      pub left : {B F : Type 0} {r : Result B F} → IsErr r → (m : Map) × Was m → IsTakenBack Was v (parts at t put wide inside.grid) r
      left {r = r} is made =
          let same = (out made.0 (begins made.1)).err_table in
          stays-made Was v (parts at t put wide inside.grid) r is (stand-for inside.grid (stays made.1) ∙ sym made.1.is) (ap (λ (p : Parts). p.grid) view)
          (at-rest inside.grid (stays made.1) (λ h. ap (λ (l : Table). has l.rows h) same ∙ all made.1 h))
          (λ m was. stood (same ∙ ap (λ (p : Parts). p.table) view))

    -- where it is taken out
    module _ {a : A} (out : (m : Map) → CanGoOut m k.way d k.path.now k.moved.now inside.rows inside.table inside.kept inside.stars
        → GoesOut {E = E} m k.way d k.path.now k.moved.now inside.table at t put wide (Ok a)) where
      pub gone-back : {m : Map} → Was m → GoWith m at t put wide
      gone-back {m} it = record { whole = whole_valid m it.tried.valid; fits = (out m (begins it)).fits }

      beside : {m : Map} → Was m → (h : Half) → has t.rows h ≡ (if is_of (strings_of k.path.now) h then true else has_string m h.string)
      beside {m} it = more-beside (more-by k.way d it.tried path_is) t.rows (λ h. (out m (begins it)).halves h ∙ all it h)

      pub hidden-now : {m : Map} → Was m → AreHidden k.path.now (parts at t put wide inside.grid)
      hidden-now {m} it =
          unseen.hidden-now k.path.now (gone-back it) (beside it) (more-by k.way d it.tried path_is).new inside.grid (differ-by k.way d it.tried path_is) (out m (begins it)).loose

      pub done : inside.table.work ≤ greatest → {B F : Type 0} {b : B} → (m : Map) × Was m → (p : Parts) → p ≡ record (parts at t put wide inside.grid) { table = p.table } → FitTogether p
          → map_of p ≡ map_of (parts at t put wide inside.grid) → DropsStrings k.path.now t.rows p.table.rows → p.table.work ≡ ticked (length k.path.now) t.work
          → IsTakenBack {A = B} {E = F} Was v p (Ok b)
      done within made p are whole is drops work = record {
        before = λ m was. is ∙ stand-for inside.grid (gone-back was);
        err = tt;
        grid = ap (λ (q : Parts). q.grid) are ∙ ap (λ (q : Parts). q.grid) view;
        proper = unseen.hidden-gone k.path.now (gone-back made.1) (beside made.1) (more-by k.way d made.1.tried path_is).new inside.grid p whole is drops;
        work = λ m was.
            let ticks = ticks_out k.way k.path.now k.moved.now inside.table.rows in
            let few = few-by d inside.table k.way was.tried k.path.now path_is (fits was) (named was) in
            let most = new-work m k.way d was.tried in
            let long = ap length path_is ∙ length-map d.strings.now forward_of in
            subst (λ (q : Map). TakesWork v.table p.table (work_bound m q)) (sym was.is)
            (draft-work inside.rows inside.table inside.kept inside.stars inside.grid v view p.table (ticks + length k.path.now) (work_bound m (after m (edit_by k.way d))) within
            (omega (arith, few, most, long))
            (ticks-then inside.table t p.table ticks (length k.path.now) (ticks-just inside.table t ticks (out m (begins was)).work) (ticks-just t p.table (length k.path.now) work)));
      }

-- ---- By the record

module _ (r : SmallRecord) (t : Added) (tells : TellsAdded r t) where
  -- it is of the edit that it tells
  pub same : edit_of r ≡ edit_by t.way t.new
  same = ap edit_of tells.2 ∙ added-edit t.way t.new tells.0

  -- and what it tells was so
  pub told : (m : Map) → Holds r m → HeldParcel t.way (after m (edit_by t.way t.new)) (Parcel t.new.parcel) t.new.points.now t.moved.now
  told m holds =
      subst (HeldParcel t.way (after m (edit_by t.way t.new)) (Parcel t.new.parcel) t.new.points.now) tells.1
      (added-held t.way t.new tells.0 m (subst (λ (q : SmallRecord). Holds q m) tells.2 holds))

module _ (r : SmallRecord) (t : Added) (tells : TellsAdded r t) (given : GivesInRange (edit_of r)) (m now : Map) (it : Belongs r m now) where
  -- what the record tells of its rings
  named-by : (w : Way) (n : Map) → HeldParcel w n (Parcel t.new.parcel) t.new.points.now t.moved.now → HeldIsland n (Parcel t.new.parcel) t.new.points.now t.moved.now
  named-by (way.Along start end) n held = held.moved_are
  named-by way.Round n held = held

  -- the record leads from the map to the one after the edit that it tells
  pub by-record : IsAddedBy t.way m now t.new t.moved.now
  by-record = record {
    tried = record {
      valid = it.valid;
      given = subst GivesInRange (same r t tells) given;
      allowed = ap (first_refusal m) (sym (same r t tells)) ∙ it.leads.allowed;
    };
    is = it.leads.is ∙ ap (after m) (same r t tells);
    named =
        subst (λ (n : Map). HeldIsland n (Parcel t.new.parcel) t.new.points.now t.moved.now) (sym (it.leads.is ∙ ap (after m) (same r t tells)))
        (named-by t.way (after m (edit_by t.way t.new)) (told r t tells m it.holds));
  }
