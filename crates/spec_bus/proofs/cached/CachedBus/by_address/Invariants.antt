use Rattle.std.proofs.Common.{◌≡◌, ◌<◌, ℕ, length, slice_index}
use Rattle.spec_bus.specs.Cached.{place_of}
use Rattle.spec_bus.proofs.cached.CachedBus.by_address.Given as goal

abbrev pub invariant-loop-addr : goal.invariant-loop-addr
invariant-loop-addr l = record {
  long : length l.bytes.items ≡ l.addr;
  bytes : (a : ℕ) → a < l.addr → slice_index l.bytes.items a ≡ slice_index l.places (place_of l.self a);
}
