-- What the two steps at a point between two others ask of the table, and what they leave of it.
use Rattle.std.proofs.Common.{◌≡◌, ◌+◌, ℕ, sym, ap, subst, ◌∙◌, List, [], ◌∷◌, ◌++◌, length, true, false, nat_eq, arith}
use Rattle.std.specs.List.{IsDistinct}
use Rattle.cad_rows.specs.declared.names.Face.{Face}
use Rattle.half_table.specs.declared.half.Half.{Half}
use Rattle.half_table.specs.Count.{ticked}
use Rattle.half_table.specs.Half.{twin}
use Rattle.half_table.specs.Rows.{HalfRows, has, next, prev, cycle}
use Rattle.half_table.specs.Surgery.{Relabels}
use Rattle.half_table.proofs.Loose.{nat_eq-symm}
use Rattle.half_paths.specs.Path.{AreDifferent}
use Rattle.half_paths.specs.Redirect.{redirect}
use Rattle.half_paths.specs.Rerouted.{rerouted, CanReroute}
use Rattle.key_lists.specs.Held.{Held}
use Rattle.map_parts.specs.Parts.{HasHalves}
use Rattle.map_parts.specs.Passing.{CanGoThrough, CanGoPast}
use Rattle.map_parts.specs.declared.edits.passing.Passing.{Passing}
use Rattle.map_parts.proofs.RelabelledEach.{cycle-same}
use Rattle.map_parts.proofs.TicksAdded.{three-steps}
use Rattle.map_parts.proofs.Passing.Between as between
use Rattle.map_parts.proofs.Passing.Routes.{IsThroughNow, IsPastNow, through-now, past-now}
use Rattle.map_parts.proofs.Passing.Through as through_point
use Rattle.map_parts.proofs.Passing.Past as past_point

-- two cycles that get a face, one after the other, and five ticks before: as many as there are then
pub both-work : (new mid done : HalfRows) (h k g : Half) (f e : Face) → Relabels (cycle new h) f new mid → Relabels (cycle mid g) e mid done → g ≡ k
    → (w w_new w_mid w_done : ℕ) → w_new ≡ ticked 5 w → w_mid ≡ ticked (length (cycle new h)) w_new → w_done ≡ ticked (length (cycle mid g)) w_mid
    → w_done ≡ ticked (length (cycle done h) + length (cycle done k) + 5) w
both-work new mid done h k g f e one two is w w_new w_mid w_done first then last =
    let again : cycle done ≡ cycle mid = cycle-same mid done two.strings two.next in
    let own : cycle done h ≡ cycle new h = λ i. (again ∙ cycle-same new mid one.strings one.next) i h in
    let other : cycle done k ≡ cycle mid g = λ i. again i (sym is i) in
    let turn : 5 + length (cycle new h) + length (cycle mid g) ≡ length (cycle new h) + length (cycle mid g) + 5 = omega arith in
    three-steps 5 (length (cycle new h)) (length (cycle mid g)) w first then last ∙ ap (λ (j : ℕ). ticked j w) turn
    ∙ (λ j. ticked (length (sym own j) + length (sym other j) + 5) w)

-- a cycle that gets a face, told otherwise
pub relabels-as : {ring again : List Half} {f e : Face} {old new : HalfRows} → ring ≡ again → f ≡ e → Relabels ring f old new → Relabels again e old new
relabels-as {old = old} {new = new} same is = subst (λ (t : List Half × Face). Relabels t.0 t.1 old new) (λ j. (same j, is j))

module _ (passing : Passing) (rows : HalfRows) (held : Held Half) (can : CanGoThrough passing rows held) where
  whole_there : HasHalves rows can.between.whole_row
  whole_there =
      through_point.whole_there can.between rows can.fits.local can.fits.ends can.first_there can.second_there

  pub through-whole_in : has rows passing.whole ≡ true
  through-whole_in = between.z-in can.between rows can.first_there can.second_there whole_there

  pub through-first_in : has rows passing.first ≡ true
  through-first_in = between.x-in can.between rows can.first_there can.second_there whole_there

  pub through-second_in : has rows passing.second ≡ true
  through-second_in = between.y-in can.between rows can.first_there can.second_there whole_there

  pub through-can : CanReroute passing.whole [] passing.first (passing.second ∷ []) (next rows)
  through-can = record {
    strung = tt;
    leads_on =
        through_point.leads can.between rows can.fits.local can.fits.ends can.first_there can.second_there;
    loose = can.loose;
  }

  pub through-then : (new : HalfRows)
      → ((g : Half) → next new g
      ≡ redirect (rerouted (prev rows passing.whole) (prev rows (twin passing.whole)) passing.whole [] passing.first (passing.second ∷ []) (next rows)) (next rows) g)
      → IsThroughNow passing.first passing.second passing.whole (next rows) (next new)
  through-then new is =
      through-now rows can.fits.local.linked passing.first passing.second passing.whole
      (between.xy can.between)
      (between.zx can.between)
      (between.zy can.between) through-can.leads_on
      can.loose (next new) is

module _ (passing : Passing) (rows : HalfRows) (held : Held Half) (can : CanGoPast passing rows held) where
  first_there : HasHalves rows can.between.first_row
  first_there = past_point.first_there can.between rows can.fits.local can.fits.ends can.whole_there

  second_there : HasHalves rows can.between.second_row
  second_there =
      past_point.second_there can.between rows can.fits.local can.fits.ends can.whole_there

  pub past-first_in : has rows passing.first ≡ true
  past-first_in = between.x-in can.between rows first_there second_there can.whole_there

  pub past-second_in : has rows passing.second ≡ true
  past-second_in = between.y-in can.between rows first_there second_there can.whole_there

  pub past-whole_in : has rows passing.whole ≡ true
  past-whole_in = between.z-in can.between rows first_there second_there can.whole_there

  pub past-different : AreDifferent ((passing.first ∷ passing.second ∷ []) ++ passing.whole ∷ [])
  unfolding IsDistinct
  past-different =
      let d = can.between.different in
      let xz : nat_eq passing.first.string passing.whole.string ≡ false = nat_eq-symm passing.first.string passing.whole.string ∙ d.0.0 in
      let yz : nat_eq passing.second.string passing.whole.string ≡ false = nat_eq-symm passing.second.string passing.whole.string ∙ d.0.1.0 in
      ((d.1.0.0, (xz, tt)), ((yz, tt), (tt, tt)))

  pub past-can : CanReroute passing.first (passing.second ∷ []) passing.whole [] (next rows)
  past-can = record {
    strung = (
      past_point.on-path can.between rows can.fits.local can.fits.ends can.whole_there,
      past_point.back-path can.between rows can.fits.local can.fits.ends can.whole_there,
      tt,
    );
    leads_on = past_point.leads can.between rows can.fits.local can.fits.ends can.whole_there;
    loose = can.loose;
  }

  pub past-then : (new : HalfRows)
      → ((g : Half) → next new g
      ≡ redirect (rerouted (prev rows passing.first) (prev rows (twin passing.second)) passing.first (passing.second ∷ []) passing.whole [] (next rows)) (next rows) g)
      → IsPastNow passing.first passing.second passing.whole (next rows) (next new)
  past-then new is =
      past-now rows can.fits.local.linked passing.first passing.second passing.whole
      (between.xy can.between)
      (between.zx can.between)
      (between.zy can.between)
      past-can.strung.0 past-can.strung.1 past-can.leads_on can.loose (next new) is
