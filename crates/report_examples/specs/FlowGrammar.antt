-- Lines in the grammar of a flow log and outside it.
use Rattle.std.specs.Prelude.{◌++◌, ◌∷◌, ◌≡◌, [], Bool, List, codes, false, is_some, map, replicate, true, ℕ}
use Rattle.flow_check.specs.Records.{record_of}

-- whether each line says something
abbrev pub are_read : List (List ℕ) → List Bool
are_read texts = map (λ l. is_some (record_of l)) texts

-- TCP, UDP, an ICMP message and a packet of IPv6, whose ports aren't read, and intervals without a packet that was seen
abbrev pub LinesAreRead : Type 0
LinesAreRead =
    are_read (codes "2 123456789012 eni-b 10.0.1.10 10.0.2.20 5000 443 6 10 840 1 2 ACCEPT OK"
    ∷ codes "2 unknown eni-b 0.0.0.0 255.255.255.255 0 65535 17 - - - - REJECT OK"
    ∷ codes "2 123456789012 eni-b 10.0.1.10 10.0.2.20 - x 1 10 840 1 2 ACCEPT OK"
    ∷ codes "2 123456789012 eni-b 2001:db8::1 2001:db8::2 - - 58 10 840 1 2 ACCEPT OK"
    ∷ codes "2 123456789012 eni-b 2001:db8::1 : 5000 443 6 10 840 1 2 ACCEPT OK"
    ∷ codes "2 - - - - - - - - - - - - NODATA"
    ∷ codes "2 a b c d e f g h i j k l SKIPDATA"
    ∷ [])
    ≡ replicate 7 true

-- a word too few, a word too many, other versions, and other statuses
abbrev pub BadLinesAreRefused : Type 0
BadLinesAreRefused =
    are_read (codes "2 123456789012 eni-b 10.0.1.10 10.0.2.20 5000 443 6 10 840 1 ACCEPT OK"
    ∷ codes "2 123456789012 eni-b 10.0.1.10 10.0.2.20 5000 443 6 10 840 1 2 3 ACCEPT OK"
    ∷ codes "3 123456789012 eni-b 10.0.1.10 10.0.2.20 5000 443 6 10 840 1 2 ACCEPT OK"
    ∷ codes "02 123456789012 eni-b 10.0.1.10 10.0.2.20 5000 443 6 10 840 1 2 ACCEPT OK"
    ∷ codes "2 123456789012 eni-b 10.0.1.10 10.0.2.20 5000 443 6 10 840 1 2 ACCEPT ok"
    ∷ codes "3 - - - - - - - - - - - - NODATA"
    ∷ codes "2 - - - - - - - - - - - NODATA"
    ∷ codes "version account-id interface-id srcaddr dstaddr srcport dstport protocol packets bytes start end action log-status"
    ∷ [])
    ≡ replicate 8 false

-- an empty line, two blanks in the middle, a blank at the start or at the end, and a carriage return
abbrev pub EmptyWordsAreRefused : Type 0
EmptyWordsAreRefused =
    are_read ([]
    ∷ codes "2 123456789012  10.0.1.10 10.0.2.20 5000 443 6 10 840 1 2 ACCEPT OK"
    ∷ codes "2 123456789012 eni-b  10.0.1.10 10.0.2.20 5000 443 6 10 840 1 2 ACCEPT OK"
    ∷ codes " 2 123456789012 eni-b 10.0.1.10 10.0.2.20 5000 443 6 10 840 1 2 ACCEPT OK"
    ∷ codes "2 123456789012 eni-b 10.0.1.10 10.0.2.20 5000 443 6 10 840 1 2 ACCEPT OK "
    ∷ (codes "2 123456789012 eni-b 10.0.1.10 10.0.2.20 5000 443 6 10 840 1 2 ACCEPT OK" ++ 13 ∷ [])
    ∷ codes "2 -  - - - - - - - - - - NODATA"
    ∷ [])
    ≡ replicate 7 false

-- a dash for an address, an address past its range, a protocol and ports past theirs, also beside IPv6, another action, and an id that
-- has 257 characters
abbrev pub FieldsAreRefused : Type 0
FieldsAreRefused =
    are_read (codes "2 123456789012 eni-b - 10.0.2.20 5000 443 6 10 840 1 2 ACCEPT OK"
    ∷ codes "2 123456789012 eni-b 10.0.1.10 10.0.2.256 5000 443 6 10 840 1 2 ACCEPT OK"
    ∷ codes "2 123456789012 eni-b 10.0.1.10 10.0.2.20 5000 443 256 10 840 1 2 ACCEPT OK"
    ∷ codes "2 123456789012 eni-b 10.0.1.10 10.0.2.20 5000 443 tcp 10 840 1 2 ACCEPT OK"
    ∷ codes "2 123456789012 eni-b 10.0.1.10 10.0.2.20 65536 443 6 10 840 1 2 ACCEPT OK"
    ∷ codes "2 123456789012 eni-b 10.0.1.10 10.0.2.20 5000 0443 17 10 840 1 2 ACCEPT OK"
    ∷ codes "2 123456789012 eni-b 2001:db8::1 2001:db8::2 - 443 6 10 840 1 2 ACCEPT OK"
    ∷ codes "2 123456789012 eni-b 10.0.1.10 10.0.2.20 5000 443 6 10 840 1 2 DROP OK"
    ∷ (codes "2 123456789012 " ++ replicate 257 120 ++ codes " 10.0.1.10 10.0.2.20 5000 443 6 10 840 1 2 ACCEPT OK")
    ∷ [])
    ≡ replicate 9 false
