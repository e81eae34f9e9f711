use Rattle.cache_lines.specs.CacheInside.{contents_of}
use Rattle.cache_lines.proofs.Empty.{IsEmpty, placed-empty, way_at-empty, copy_at-empty}
use Rattle.cache_lines.proofs.cache.Cache.with_geometry.Goals as goal

empty : (c : goal.In_ok-stored) → IsEmpty (contents_of (record { stored = c.in_ok-stored.stored; line_length = c.args.line_length; sets = c.args.sets; ways = c.args.ways }))
empty c =
    record {
      length_is = c.requires.length;
      geometry_is = c.requires.geometry;
      size = c.in_ok-stored.ensures.count_is;
      invalid = c.in_ok-stored.ensures.each;
    }

pub invariant_of-result : goal.invariant_of-result
invariant_of-result c = placed-empty _ (empty c)

pub returns-clause-placed : goal.returns-clause-placed
returns-clause-placed c = placed-empty _ (empty c)

pub returns-clause-copies : goal.returns-clause-copies
returns-clause-copies c = copy_at-empty _ (empty c)

pub returns-clause-ways : goal.returns-clause-ways
returns-clause-ways c = way_at-empty _ (empty c)
