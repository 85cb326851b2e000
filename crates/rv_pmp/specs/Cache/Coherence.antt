-- Coherence of the cache with the PMP entries. (Not defined by the manual. No public contract names it.)
use Rattle.std.specs.Prelude.{◌≡◌, if◌then◌else◌, false}
use Rattle.rv_pmp.specs.declared.cache.Cache.{Cache}
use Rattle.rv_pmp.specs.declared.caches.Caches.{Caches}
use Rattle.rv_pmp.specs.declared.open_range.OpenRange.{OpenRange}
use Rattle.rv_pmp.specs.Entries.{Entries, HasSixteen}
use Rattle.rv_pmp.specs.Cache.OpenRanges.{AreOpen}
use Rattle.rv_pmp.specs.Cache.Segments.{AreSegments}

-- there are sixteen entries, the segments are theirs unless they are stale, and the cached ranges are open
abbrev pub IsCacheOf : Entries → Cache → Type 0
IsCacheOf entries cache =
    HasSixteen entries
    × (cache.is_stale ≡ false → AreSegments entries cache.segments)
    × AreOpen entries cache.ranges

-- `with_fetch` is the cache with another open range for fetches
abbrev pub with_fetch : Cache → OpenRange → Cache
with_fetch cache range = record cache { ranges = record cache.ranges { fetch = range } }

-- `with_read` is the cache with another open range for loads
abbrev pub with_read : Cache → OpenRange → Cache
with_read cache range = record cache { ranges = record cache.ranges { read = range } }

-- `with_write` is the cache with another open range for stores
abbrev pub with_write : Cache → OpenRange → Cache
with_write cache range = record cache { ranges = record cache.ranges { write = range } }

-- `cache_now` is the cache of the current entries
unfoldable pub cache_now : Caches → Cache
cache_now caches = if caches.is_second then caches.second else caches.first

-- of the two caches, the one that was not used last
unfoldable pub cache_before : Caches → Cache
cache_before caches = if caches.is_second then caches.first else caches.second
