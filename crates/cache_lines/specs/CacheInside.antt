-- What contracts see of a cache.
use Rattle.cache_lines.specs.declared.cache.Cache.TheInside.{Inside}
use Rattle.cache_lines.specs.Lines.{Contents}
use Rattle.cache_lines.specs.Stored.{stored_lines}

abbrev pub contents_of : Inside → Contents
contents_of cache =
    record {
      line_length = cache.line_length;
      geometry = record { sets = cache.sets; ways = cache.ways };
      lines = stored_lines cache.stored;
    }
