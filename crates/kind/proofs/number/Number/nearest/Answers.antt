use Rattle.std.proofs.Common.{◌≡◌, pos, negsuc, ap, ◌∙◌, w32, w64, to_z, of_z}
use Rattle.std.specs.Int.{int_min, int_max}
use Rattle.std.proofs.lemmas.Int.{to_z-of_z}
use Rattle.kind.specs.Numbers.{limited, limited_range}
use Rattle.kind.proofs.Integers.{mag_range, narrow_is}
use Rattle.kind.specs.NumberLaws.{same_number, clamped}
use Rattle.kind.proofs.number.Number.nearest.Goals as goal

pub returns : goal.returns
returns c =
    let z = c.args.z in
    let e : c.clamp.result ≡ int_max (negsuc 2147483646) (int_min (to_z w64 (of_z w64 z)) (pos 2147483647)) = c.clamp.ensures.value in
    let f : to_z w64 (of_z w64 z) ≡ z = to_z-of_z w64 z c.ranges.z in
    let g : c.clamp.result ≡ limited z = e ∙ ap (λ y. int_max (negsuc 2147483646) (int_min y (pos 2147483647))) f ∙ clamped z in
    same_number _ _ (ap (λ y. to_z w32 (of_z w32 (to_z w64 (of_z w64 y)))) g ∙ narrow_is (limited z) (mag_range (limited z) (limited_range z)))
