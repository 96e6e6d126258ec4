use Rattle.std.proofs.Common.{◌≡◌, refl, sym, subst, ap, List, rules}
use Rattle.std.specs.Cmp.{IsEquivalence}
use Rattle.std.specs.List.{Contains}
use Rattle.std.proofs.lemmas.Cmp.{nat_eq_equiv}
use Rattle.std.proofs.lemmas.Fn.{dedup_same}
use Rattle.std.proofs.lemmas.List.Kept.{Contains-dedup}
use Rattle.std.proofs.lemmas.List.Sorted.{Contains-permutation}
use Rattle.cad_rows.specs.declared.names.Face.{Face}
use Rattle.cad_rows.specs.declared.names.Face.TheVariants.{Outside, Parcel}
use Rattle.cad_map.specs.Boundaries.{is_face}
use Rattle.cad_map.proofs.CallerLemmas.{is_face-refl, is_face-same}
use Rattle.edit_records.proofs.touched.each_once.Goals as goal

is_face-symm : (f g : Face) → is_face f g ≡ is_face g f
is_face-symm Outside Outside = refl
is_face-symm Outside (Parcel n) = refl
is_face-symm (Parcel m) Outside = refl
is_face-symm (Parcel m) (Parcel n) = nat_eq_equiv.symm m n

is_face-equiv : IsEquivalence is_face
is_face-equiv = record { refl = is_face-refl; symm = is_face-symm; congr = λ f g h e. ap (λ k. is_face k h) (is_face-same f g e) }

pub returns : goal.returns
returns c f among =
    let sorted = c.sort_unstable.new.self.items in
    let there = Contains-permutation c.args.faces.items sorted f c.sort_unstable.ensures.permutation among in
    subst (λ (l : List Face). Contains l f)
    (sym (dedup_same _ is_face _ (λ x y b f' x' y' k. search rules) sorted c.dedup_by.new.self.items c.dedup_by.ensures.filtered))
    (Contains-dedup is_face-equiv is_face-same sorted f there)
