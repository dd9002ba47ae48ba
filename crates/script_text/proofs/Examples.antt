-- The definitions on worked texts.
use Rattle.std.proofs.Common.{◌≡◌, ℕ, List, [], ◌∷◌, Option, Some, None, bytes_eq, if◌then◌else◌, refl, codes}
use Rattle.hex.specs.Hex.{decode_pairs}
use Rattle.board_core.specs.declared.step.Address.{Address}
use Rattle.script_text.specs.declared.head.Head.{Head}
use Rattle.script_text.specs.Lines.{lines_of, behind_line, behind_lines, ends}
use Rattle.script_text.specs.Forms.{words_of, octets_exactly, octets_up_to, address_of}
use Rattle.script_text.specs.Script.{head_of, said, said_of, bad_line, lines_in}

-- both ends of a line, an empty line, a 0Dh within a line, and a last line without its end
lines : lines_of (codes "a\r\nb\n\nc\rd\r\r\ne\r") ≡ codes "a" ∷ codes "b" ∷ [] ∷ codes "c\rd\r" ∷ codes "e\r" ∷ []
lines = refl

no_lines : lines_of [] ≡ []
no_lines = refl

-- behind the last line's end there is no further line
one_line : lines_of (codes "end\n") ≡ codes "end" ∷ []
one_line = refl

behind : behind_line (codes "a\r\nb\nc") ≡ codes "b\nc"
behind = refl

behind_two : behind_lines 2 (codes "a\r\nb\nc") ≡ codes "c"
behind_two = refl

behind_all : behind_lines 4 (codes "a\r\nb\nc") ≡ []
behind_all = refl

two_ends : ends (codes "a\r\nb\nc") ≡ 2
two_ends = refl

two_spaces : words_of (codes "a  b ") ≡ codes "a" ∷ [] ∷ codes "b" ∷ [] ∷ []
two_spaces = refl

-- heads
head_at : ℕ → ℕ → Option Head
head_at id count = Some (record { id = id; count = count })

head : head_of (codes "script") (codes "script 0000000A 0000010") ≡ head_at 10 10
unfolding head_at decode_pairs
head = refl

greatest : head_of (codes "capture") (codes "capture ffffffff 1000000") ≡ head_at 4294967295 1000000
unfolding head_at decode_pairs
greatest = refl

above : head_of (codes "script") (codes "script 00000001 1000001") ≡ None
unfolding decode_pairs
above = refl

eight_digits : head_of (codes "script") (codes "script 00000001 00000001") ≡ None
unfolding decode_pairs
eight_digits = refl

other_word : head_of (codes "capture") (codes "script 00000001 1") ≡ None
unfolding decode_pairs
other_word = refl

-- the words that lines share
octets : octets_exactly 3 (codes "01aBFf") ≡ Some (1 ∷ 171 ∷ 255 ∷ [])
unfolding decode_pairs
octets = refl

fewer : octets_exactly 3 (codes "01aB") ≡ None
unfolding decode_pairs
fewer = refl

no_octets : octets_up_to 2 (codes "-") ≡ Some []
no_octets = refl

two_octets : octets_up_to 2 (codes "0aFF") ≡ Some (10 ∷ 255 ∷ [])
unfolding decode_pairs
two_octets = refl

more_octets : octets_up_to 2 (codes "0aFF00") ≡ None
unfolding decode_pairs
more_octets = refl

no_digits : octets_up_to 2 [] ≡ None
no_digits = refl

address_at : List ℕ → ℕ → Option Address
address_at ip port = Some (record { ip = ip; port = port })

address : address_of (codes "192.168.000.7:162") ≡ address_at (192 ∷ 168 ∷ 0 ∷ 7 ∷ []) 162
unfolding address_at
address = refl

greatest_address : address_of (codes "255.255.255.255:65535") ≡ address_at (255 ∷ 255 ∷ 255 ∷ 255 ∷ []) 65535
unfolding address_at
greatest_address = refl

port_above : address_of (codes "1.2.3.4:65536") ≡ None
port_above = refl

three_numbers : address_of (codes "1.2.3:162") ≡ None
three_numbers = refl

-- scripts whose lines are `tick` alone
tick_of : List ℕ → Option ℕ
tick_of line = if bytes_eq line (codes "tick") then Some 1 else None

-- both ends of a line, and octets behind the end that aren't read
whole : said_of (codes "script") tick_of (codes "script 00000001 1\r\ntick\nend\nmore") ≡ Some (said 1 1 (1 ∷ []) None)
unfolding tick_of decode_pairs
whole = refl

too_many : said_of (codes "script") tick_of (codes "script 00000001 0\ntick\nend") ≡ Some (said 1 0 [] (Some 2))
unfolding tick_of decode_pairs
too_many = refl

too_few : said_of (codes "script") tick_of (codes "script 00000001 2\ntick\nend") ≡ Some (said 1 2 (1 ∷ []) (Some 3))
unfolding tick_of decode_pairs
too_few = refl

no_end : said_of (codes "script") tick_of (codes "script 00000001 0\n") ≡ Some (said 1 0 [] (Some 2))
unfolding tick_of decode_pairs
no_end = refl

return_at_the_end : said_of (codes "script") tick_of (codes "script 00000001 0\nend\r") ≡ Some (said 1 0 [] (Some 2))
unfolding tick_of decode_pairs
return_at_the_end = refl

no_text : bad_line (said_of (codes "script") tick_of []) ≡ Some 1
no_text = refl

no_head : lines_in (said_of (codes "capture") tick_of (codes "script 00000001 1\ntick\nend")) ≡ 1
unfolding tick_of decode_pairs
no_head = refl

three_lines : lines_in (said_of (codes "script") tick_of (codes "script 00000001 1\ntick\nend\nmore")) ≡ 3
unfolding tick_of decode_pairs
three_lines = refl
