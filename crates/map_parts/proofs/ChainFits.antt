-- A table that goes with a map, after a chain has come across a face.
use Rattle.std.proofs.Common.{◌≡◌, ◌≢◌, ℕ, ◌≤◌, List, ◌∷◌, length, sym, ap, ◌∙◌, if◌then◌else◌}
use Rattle.std.specs.List.{AllByRecursion}
use Rattle.cad_rows.specs.declared.names.Face.{Face}
use Rattle.cad_rings.specs.Cycle.{Corner}
use Rattle.cad_rings.specs.Surgery.{sides_of_chain}
use Rattle.cad_map.specs.declared.boundary.Boundary.{Boundary}
use Rattle.cad_map.specs.Map.{Map}
use Rattle.cad_map.specs.Rings.{HasWholeRings}
use Rattle.half_table.specs.declared.half.Half.{Half}
use Rattle.half_table.specs.Half.{twin}
use Rattle.half_table.specs.Cycle.{holds}
use Rattle.half_table.specs.Rows.{HalfRows, IsLinked, has, origin_of, face, cycle}
use Rattle.half_paths.specs.Path.{strings_of}
use Rattle.half_paths.specs.Loose.{is_of}
use Rattle.cad_laws.specs.Local.{IsShown, side_by, IsLocal}
use Rattle.map_parts.specs.Parts.{HasHalves}
use Rattle.map_parts.specs.Paths.{AreAlong, HasStringsMore}
use Rattle.map_parts.specs.Relabelled.{on_cycles, RelabelsEach}
use Rattle.map_parts.specs.Islands.{FitsTable, AreOfRings}
use Rattle.map_parts.specs.Chains.{IsChainOf}
use Rattle.map_parts.proofs.WholeStrings.{two-ends}
use Rattle.map_parts.proofs.PartsRings.{half-two}
use Rattle.map_parts.proofs.KeptShown.{local-same, bare}
use Rattle.map_parts.proofs.RingCycles.{labelled-faces}
use Rattle.map_parts.proofs.IslandFits.{along-same, on-same, of-same, ends-same}
use Rattle.map_parts.proofs.ChainAcross.{first-along, last-along}
use Rattle.map_parts.proofs.ChainFaces.{chain-labelled}

module _ {whole parted : Map} {outer inner : Face} {chain : List ℕ} {fc lc : Corner} {one left right : Boundary} {others : List Boundary}
    (it : IsChainOf whole parted outer inner chain fc lc one left right others) (rings : HasWholeRings whole) (parts : HasWholeRings parted) (long : 2 ≤ length chain)
    {first : Half} {rest : List Half} (more : HasStringsMore whole parted (first ∷ rest)) {moved : List Half} {old mid new : HalfRows}
    (has_mid : (g : Half) → has mid g ≡ has old g) (origins_mid : (g : Half) → origin_of mid g ≡ origin_of old g)
    (faces_mid : (g : Half) → face mid g ≡ (if holds (cycle mid first) g then inner else if is_of (strings_of (first ∷ rest)) g then outer else face old g))
    (local : IsLocal parted mid) (all : RelabelsEach moved inner mid new) (now : IsLinked new)
    (along : AreAlong old (first ∷ rest) (sides_of_chain chain)) (ends : AllByRecursion (HasHalves old) parted.strings) (of : AreOfRings parted old moved inner others)
    (fits : FitsTable whole old) where
  ends_mid : AllByRecursion (HasHalves mid) parted.strings
  ends_mid = ends-same old mid origins_mid has_mid parted.strings ends

  two-mid : (h : Half) → IsShown parted h → origin_of mid h ≢ origin_of mid (twin h)
  two-mid h shown = half-two (bare parted mid) ends_mid (two-ends parted parts) h shown

  along-mid : AreAlong mid (first ∷ rest) (sides_of_chain chain)
  along-mid = along-same old mid origins_mid (first ∷ rest) (sides_of_chain chain) along

  faces : (g : Half) → face new g ≡ (if on_cycles mid moved g then inner else if holds (cycle mid first) g then inner else if is_of (strings_of (first ∷ rest)) g then outer else face old g)
  faces g = all.face g ∙ ap (λ (f : Face). if on_cycles mid moved g then inner else f) (faces_mid g)

  local_new : IsLocal parted new
  local_new = local-same parted mid new all.has all.next all.origin now local

  fits-across : FitsTable parted new
  fits-across = record {
    local = local_new;
    ends = ends-same mid new all.origin all.has parted.strings ends_mid;
    faces =
        labelled-faces parted parts new local_new (λ h shown same. two-mid h shown (sym (all.origin h) ∙ same ∙ all.origin (twin h)))
        (λ b there g on.
        chain-labelled whole parted outer inner chain fc lc one left right others it rings parts long first rest more old mid fits local two-mid origins_mid along-mid
        (first-along (side_by mid) first rest chain long along-mid) (last-along (side_by mid) first rest chain long along-mid)
        moved (of-same old mid origins_mid parted moved inner others of) (face new) faces b there g (on-same new mid (λ h. sym (all.origin h)) parted b g on));
  }

  -- with what its halves are before the cycles are relabelled
  pub all-across : FitsTable parted new × ((h : Half) → IsShown parted h → origin_of mid h ≢ origin_of mid (twin h)) × AreAlong mid (first ∷ rest) (sides_of_chain chain)
  all-across = (fits-across, two-mid, along-mid)
