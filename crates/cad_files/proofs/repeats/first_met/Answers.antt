use Rattle.std.proofs.Common.{◌∙◌, subst, List, ℕ}
use Rattle.std.specs.Prelude.{IfSome, IfNone}
use Rattle.sweep.specs.Repeats.{AreDistinct, IsFirstRepeat}
use Rattle.cad_files.proofs.RepeatFacts.{met-lesser, none-lesser}
use Rattle.cad_files.proofs.repeats.first_met.Goals as goal

pub returns : goal.returns
returns c =
    let sides = c.args.sides.now in
    let small = c.in_ok-keys.ensures.small in
    let small_followers = c.in_ok-keys-2.ensures.small in
    let as_side = c.in_ok-as_side.as_side in
    let by_follower = c.in_ok-by_follower.by_follower in
    let side_keys = c.as_slice.ensures.value ∙ c.in_ok-keys.ensures.keys in
    let follower_keys = c.as_slice-2.ensures.value ∙ c.in_ok-keys-2.ensures.keys in
    let no_side = subst (λ (l : List ℕ). IfNone as_side (AreDistinct l)) side_keys c.in_ok-as_side.ensures.none in
    let no_follower = subst (λ (l : List ℕ). IfNone by_follower (AreDistinct l)) follower_keys c.in_ok-by_follower.ensures.none in
    record {
      some = rw c.lesser.ensures
          (met-lesser sides small small_followers as_side by_follower
          (subst (λ (l : List ℕ). IfSome as_side (IsFirstRepeat l)) side_keys c.in_ok-as_side.ensures.some) no_side
          (subst (λ (l : List ℕ). IfSome by_follower (IsFirstRepeat l)) follower_keys c.in_ok-by_follower.ensures.some) no_follower);
      none = rw c.lesser.ensures (none-lesser sides small small_followers as_side by_follower no_side no_follower);
    }
