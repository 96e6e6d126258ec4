-- One link of one half-edge written, and nothing else.
use Rattle.std.specs.Prelude.{◌≡◌, Bool, Option, Some, if◌then◌else◌}
use Rattle.cad_rows.specs.declared.names.Face.{Face}
use Rattle.half_table.specs.declared.half.Half.{Half}
use Rattle.half_table.specs.declared.links.Links.{Links}
use Rattle.half_table.specs.declared.links.Ends.{Ends}
use Rattle.half_table.specs.Half.{is_half}
use Rattle.half_table.specs.Rows.{HalfRows, strings, links_of, has, next, prev, origin_of, face}

-- the ends with other links at one of them
abbrev pub with_links_at : Bool → Links → Ends → Ends
with_links_at forward to ends = if forward then record ends { forward = to } else record ends { backward = to }

-- the links with those of h changed
abbrev pub changed_at : Half → Links → (Half → Option Links) → Half → Option Links
changed_at h to links g = if is_half g h then Some to else links g

-- the links of h are changed, and nothing else
pub record ChangesLinks (h : Half) (to : Links) (old new : HalfRows) : Type 0 where
  pub strings : strings new ≡ strings old
  pub links : (g : Half) → links_of new g ≡ changed_at h to (links_of old) g

-- the value at h changed to v
abbrev pub set_at : {V : Type 0} → Half → V → (Half → V) → Half → V
set_at h v f g = if is_half g h then v else f g

-- the next of h is changed, and nothing else
pub record ChangesNext (h to : Half) (old new : HalfRows) : Type 0 where
  pub strings : strings new ≡ strings old
  pub has : (g : Half) → has new g ≡ has old g
  pub next : (g : Half) → next new g ≡ set_at h to (next old) g
  pub prev : (g : Half) → prev new g ≡ prev old g
  pub origin : (g : Half) → origin_of new g ≡ origin_of old g
  pub face : (g : Half) → face new g ≡ face old g

-- the prev of h is changed, and nothing else
pub record ChangesPrev (h to : Half) (old new : HalfRows) : Type 0 where
  pub strings : strings new ≡ strings old
  pub has : (g : Half) → has new g ≡ has old g
  pub next : (g : Half) → next new g ≡ next old g
  pub prev : (g : Half) → prev new g ≡ set_at h to (prev old) g
  pub origin : (g : Half) → origin_of new g ≡ origin_of old g
  pub face : (g : Half) → face new g ≡ face old g

-- the face of h is changed, and nothing else
pub record ChangesFace (h : Half) (to : Face) (old new : HalfRows) : Type 0 where
  pub strings : strings new ≡ strings old
  pub has : (g : Half) → has new g ≡ has old g
  pub next : (g : Half) → next new g ≡ next old g
  pub prev : (g : Half) → prev new g ≡ prev old g
  pub origin : (g : Half) → origin_of new g ≡ origin_of old g
  pub face : (g : Half) → face new g ≡ set_at h to (face old) g

-- what h follows, what follows it and its face are written anew, and nothing else
pub record Relinks (h before after : Half) (to : Face) (old new : HalfRows) : Type 0 where
  pub strings : strings new ≡ strings old
  pub has : (g : Half) → has new g ≡ has old g
  pub next : (g : Half) → next new g ≡ set_at h after (next old) g
  pub prev : (g : Half) → prev new g ≡ set_at h before (prev old) g
  pub origin : (g : Half) → origin_of new g ≡ origin_of old g
  pub face : (g : Half) → face new g ≡ set_at h to (face old) g
