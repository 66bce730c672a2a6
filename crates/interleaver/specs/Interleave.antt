-- The order in which packets of several streams go out.
use Rattle.std.specs.Prelude.{◌≡◌, ℕ, zero, suc, Bool, true, false, ◌&&◌, ◌||◌, ◌==◌, List, [], ◌∷◌, ◌++◌, nat_lt, if◌then◌else◌, ℤ, pos, ◌-ℤ◌, ◌*ℤ◌, int_lt, int_le, fold, negsuc}
use Rattle.std.specs.List.{list_any}
use Rattle.rmx_media.specs.declared.packet.Packet.{Packet}

-- by dts, then by stream
abbrev pub is_before : Packet → Packet → Bool
is_before p q = int_lt p.dts q.dts || (int_le p.dts q.dts && nat_lt p.stream q.stream)

-- p in its place in a pending list, behind all that it isn't before
abbrev pub put_in : Packet → List Packet → List Packet
put_in p [] = p ∷ []
put_in p (x ∷ xs) = if is_before p x then p ∷ x ∷ xs else x ∷ put_in p xs

abbrev pub has_stream : ℕ → List Packet → Bool
has_stream stream packets = list_any (λ p. p.stream == stream) packets

-- every stream below n stands in the list
abbrev pub has_all : ℕ → List Packet → Bool
has_all zero packets = true
has_all (suc n) packets = has_stream n packets && has_all n packets

-- p comes more than delta microseconds after this dts
abbrev pub is_over : ℕ → ℤ → Packet → Bool
is_over delta dts p = int_lt (pos delta) ((p.dts -ℤ dts) *ℤ pos 1000)

-- the head may go: every stream is there, or the list is too wide
abbrev pub may_go : ℕ → ℕ → List Packet → Bool
may_go n delta [] = false
may_go n delta (x ∷ xs) = has_all n (x ∷ xs) || (nat_lt 0 delta && list_any (is_over delta x.dts) (x ∷ xs))

-- what went out, and what is pending
pub record Line : Type 0 where
  pub out : List Packet
  pub pending : List Packet

-- the head goes out as long as it may
abbrev pub release : ℕ → ℕ → List Packet → List Packet → Line
release n delta out [] = record { out = out; pending = [] }
release n delta out (x ∷ xs) = if may_go n delta (x ∷ xs) then release n delta (out ++ x ∷ []) xs else record { out = out; pending = x ∷ xs }

-- a packet arrives
abbrev pub arrive : ℕ → ℕ → Line → Packet → Line
arrive n delta line p = release n delta line.out (put_in p line.pending)

abbrev pub no_line : Line
no_line = record { out = []; pending = [] }

unfoldable pub line_of : ℕ → ℕ → List Packet → Line
line_of n delta packets = fold (arrive n delta) no_line packets

-- what goes out before the end
abbrev pub emitted : ℕ → ℕ → List Packet → List Packet
emitted n delta packets = (line_of n delta packets).out

-- all of it, the end included
abbrev pub interleave : ℕ → ℕ → List Packet → List Packet
interleave n delta packets = (line_of n delta packets).out ++ (line_of n delta packets).pending

-- these packets arrived, and of what goes out these went, so that this is pending
abbrev pub IsLined : ℕ → ℕ → List Packet → List Packet → List Packet → Type 0
IsLined n delta packets out pending = release n delta out pending ≡ line_of n delta packets

-- the dts of a stream's last packet, or below every dts where it has none
abbrev pub last_dts : ℕ → List Packet → ℤ
last_dts stream packets = fold (λ dts p. if p.stream == stream then p.dts else dts) (negsuc 9223372036854775807) packets

-- the law of longer lists: what goes out before the end stays the beginning, of the whole order too
abbrev pub EmittedOnlyGrows : Type 0
EmittedOnlyGrows = (n delta : ℕ) (packets more : List Packet) → (rest : List Packet) × (interleave n delta (packets ++ more) ≡ emitted n delta packets ++ rest)
