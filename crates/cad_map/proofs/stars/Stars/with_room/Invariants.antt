use Rattle.std.proofs.Common.{◌≡◌, ◌++◌, ℕ, drop}
use Rattle.std.specs.List.{flat_map, enumerate_from}
use Rattle.cad_map.specs.Stars.{spokes_at, spokes_of, marked_star}
use Rattle.key_lists.specs.Held.{items_at}
use Rattle.cad_map.proofs.stars.Stars.with_room.Given as goal

-- of each marked point the spokes of the strings from this place on are left
abbrev pub invariant-loop-place : goal.invariant-loop-place
invariant-loop-place g l =
    let m = g.M.MapView.map l.map in
    (p : ℕ) → items_at l.spokes p ++ marked_star l.marks p (flat_map (λ e. spokes_at m e.0 e.1) (enumerate_from l.place (drop l.place m.strings))) ≡ marked_star l.marks p (spokes_of m)
