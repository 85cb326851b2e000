-- The RAM after the load, for the closed instance of the law of declassification. Its image is a raw image of 24 bytes (`calling_host`), which the
-- loader copies to 80010000 in a RAM of 128 KiB. The proof compares the bytes before, in and after the image.
use Rattle.std.proofs.Common.{◌≡◌, ◌<◌, ℕ, ◌+◌, ◌-◌, true, false, List, [], ◌∷◌, ◌++◌, replicate, get_or, refl, sym, ◌∙◌, inl, inr, arith}
use Rattle.std.specs.Prelude.{map, nat_lt}
use Rattle.std.specs.List.{range_with_len}
use Rattle.std.proofs.lemmas.Bool.{cases_lt}
use Rattle.std.proofs.lemmas.Bool.Decides.{nat_tests}
use Rattle.std.proofs.lemmas.List.{ext_get_or, get_or-append_right, get_or-replicate, get_or_append_left}
use Rattle.std.proofs.lemmas.List.FromFn.{get_or-map-range_with_len, length-map-range_with_len}
use Rattle.rv_memory.specs.Memory.{ram_base}
use Rattle.rv_elf.specs.Loaded.{byte_after, loaded_memory}
use Rattle.rv_elf.specs.Segments.{has_address, occupying, raw_segments}
use Rattle.rv_elf.specs.declared.segment.Segment.{Segment}
use Rattle.rv_debug.specs.SecretRun.{calling_host}

-- `ram_size` is the size of the RAM in bytes
abbrev ram_size : ℕ
ram_size = 131072

-- `image_offset` is the offset of the image in RAM: that of the address 80010000
abbrev image_offset : ℕ
image_offset = 65536

-- `code_size` is the size of the image in bytes: the host's code has six instructions
abbrev code_size : ℕ
code_size = 24

-- `zeros_after` is the number of bytes of RAM after the image
abbrev zeros_after : ℕ
zeros_after = 65512

-- `loaded` is the memory after the load: the host's code at 80010000, and zeros elsewhere
abbrev pub loaded : List ℕ
loaded = replicate image_offset 0 ++ (calling_host ++ replicate zeros_after 0)

-- `segment` is the segment of the raw image
abbrev segment : Segment
segment = record { offset = 0; address = 0x80010000; file_size = code_size; memory_size = code_size }

-- `byte_at_address` is the byte at an address after the load
abbrev byte_at_address : ℕ → ℕ
byte_at_address address = byte_after calling_host (segment ∷ []) (replicate ram_size 0) address

-- a byte of RAM outside the segment is 0 after the load
outside_is_0 : (index : ℕ) → index < ram_size → has_address (ram_base + index) segment ≡ false → byte_at_address (ram_base + index) ≡ 0
outside_is_0 index in_ram outside_segment =
    let offset_is : ram_base + index - ram_base ≡ index = omega arith in
    rw (outside_segment, offset_is) (get_or-replicate {A = ℕ} ram_size index 0 0 in_ram)

-- each byte after the load is the byte of `loaded`
byte_is : (index : ℕ) → index < ram_size → byte_at_address (ram_base + index) ≡ get_or loaded index 0
byte_is index in_ram = elim (cases_lt index image_offset) [
  -- before the image: 0
  | inl before_image ↦
      let outside_segment : has_address (ram_base + index) segment ≡ false = grind (arith, nat_tests, before_image) in
      let zero_is = get_or-replicate {A = ℕ} image_offset index 0 0 before_image in
      outside_is_0 index in_ram outside_segment
      ∙ sym (get_or_append_left (replicate image_offset 0) (calling_host ++ replicate zeros_after 0) 0 index before_image ∙ zero_is)
  | inr not_before ↦
      let skips_zeros = get_or-append_right (replicate image_offset 0)
      (calling_host ++ replicate zeros_after 0) image_offset index 0 refl not_before in
      elim (cases_lt index (image_offset + code_size)) [
        -- in the image: the byte of the host's code
        | inl in_image ↦
            let in_segment : has_address (ram_base + index) segment ≡ true = grind (arith, nat_tests, not_before, in_image) in
            let offset_is : ram_base + index - 0x80010000 ≡ index - image_offset = omega (arith, not_before) in
            let index_in_code : index - image_offset < code_size = omega (arith, not_before, in_image) in
            let in_file : nat_lt (index - image_offset) code_size ≡ true = grind (arith, nat_tests, not_before, in_image) in
            let from_offset_0 : 0 + (index - image_offset) ≡ index - image_offset = omega arith in
            rw (in_segment, offset_is, in_file, from_offset_0)
            (sym (skips_zeros ∙ get_or_append_left calling_host (replicate zeros_after 0) 0 (index - image_offset) index_in_code))
        -- after the image: 0
        | inr after_image ↦
            let outside_segment : has_address (ram_base + index) segment ≡ false = grind (arith, nat_tests, after_image) in
            let index_in_zeros : index - image_offset - code_size < zeros_after = omega (arith, not_before, after_image, in_ram) in
            let skips_code =
            get_or-append_right calling_host (replicate zeros_after 0) code_size (index - image_offset) 0 refl
            (omega (arith, not_before, after_image)) in
            let zero_is = get_or-replicate {A = ℕ} zeros_after (index - image_offset - code_size) 0 0 index_in_zeros in
            outside_is_0 index in_ram outside_segment ∙ sym (skips_zeros ∙ skips_code ∙ zero_is)
      ]
]

-- the loader's memory for the image is `loaded`, byte by byte
pub memory_is : loaded_memory calling_host (raw_segments code_size true) (replicate ram_size 0) ≡ loaded
unfolding loaded_memory occupying
memory_is =
    let same_length = length-map-range_with_len byte_at_address ram_base ram_size in
    ext_get_or 0 (map byte_at_address (range_with_len ram_base ram_size)) loaded same_length
    (λ index in_list.
    let in_ram : index < ram_size = omega (arith, in_list, same_length) in
    get_or-map-range_with_len byte_at_address ram_base ram_size index (ram_base + index) 0 in_ram refl ∙ byte_is index in_ram)
