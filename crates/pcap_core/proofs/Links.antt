-- A named link type and its number determine each other.
use Rattle.std.proofs.Common.{◌≡◌, ◌<◌, ◌+◌, ◌^◌, ℕ, arith, refl, sym, ap, ◌∙◌, inl, inr, subst}
use Rattle.std.specs.Prelude.{◌⊎◌, ◌==◌, if◌then◌else◌}
use Rattle.std.proofs.lemmas.Bool.{cases_eq}
use Rattle.pcap_core.specs.declared.link.DataLink.{DataLink}
use Rattle.pcap_core.specs.declared.link.DataLink.TheVariants as link
use Rattle.pcap_core.specs.Link.{Link, IsNamed, IsPlain, link_number, key}

-- the named link type of a number, or the unknown one
named_at : ℕ → DataLink
named_at n =
    if n == 0 then link.NULL else
    if n == 1 then link.ETHERNET else
    if n == 3 then link.AX25 else
    if n == 6 then link.IEEE802_5 else
    if n == 7 then link.ARCNET_BSD else
    if n == 8 then link.SLIP else
    if n == 9 then link.PPP else
    if n == 10 then link.FDDI else
    if n == 50 then link.PPP_HDLC else
    if n == 51 then link.PPP_ETHER else
    if n == 100 then link.ATM_RFC1483 else
    if n == 101 then link.RAW else
    if n == 104 then link.C_HDLC else
    if n == 105 then link.IEEE802_11 else
    if n == 107 then link.FRELAY else
    if n == 108 then link.LOOP else
    if n == 113 then link.LINUX_SLL else
    if n == 114 then link.LTALK else
    if n == 117 then link.PFLOG else
    if n == 119 then link.IEEE802_11_PRISM else
    if n == 122 then link.IP_OVER_FC else
    if n == 123 then link.SUNATM else
    if n == 127 then link.IEEE802_11_RADIOTAP else
    if n == 129 then link.ARCNET_LINUX else
    if n == 138 then link.APPLE_IP_OVER_IEEE1394 else
    if n == 139 then link.MTP2_WITH_PHDR else
    if n == 140 then link.MTP2 else
    if n == 141 then link.MTP3 else
    if n == 142 then link.SCCP else
    if n == 143 then link.DOCSIS else
    if n == 144 then link.LINUX_IRDA else
    if n == 147 then link.USER0 else
    if n == 148 then link.USER1 else
    if n == 149 then link.USER2 else
    if n == 150 then link.USER3 else
    if n == 151 then link.USER4 else
    if n == 152 then link.USER5 else
    if n == 153 then link.USER6 else
    if n == 154 then link.USER7 else
    if n == 155 then link.USER8 else
    if n == 156 then link.USER9 else
    if n == 157 then link.USER10 else
    if n == 158 then link.USER11 else
    if n == 159 then link.USER12 else
    if n == 160 then link.USER13 else
    if n == 161 then link.USER14 else
    if n == 162 then link.USER15 else
    if n == 163 then link.IEEE802_11_AVS else
    if n == 165 then link.BACNET_MS_TP else
    if n == 166 then link.PPP_PPPD else
    if n == 169 then link.GPRS_LLC else
    if n == 170 then link.GPF_T else
    if n == 171 then link.GPF_F else
    if n == 177 then link.LINUX_LAPD else
    if n == 187 then link.BLUETOOTH_HCI_H4 else
    if n == 189 then link.USB_LINUX else
    if n == 192 then link.PPI else
    if n == 195 then link.IEEE802_15_4 else
    if n == 196 then link.SITA else
    if n == 197 then link.ERF else
    if n == 201 then link.BLUETOOTH_HCI_H4_WITH_PHDR else
    if n == 202 then link.AX25_KISS else
    if n == 203 then link.LAPD else
    if n == 204 then link.PPP_WITH_DIR else
    if n == 205 then link.C_HDLC_WITH_DIR else
    if n == 206 then link.FRELAY_WITH_DIR else
    if n == 209 then link.IPMB_LINUX else
    if n == 215 then link.IEEE802_15_4_NONASK_PHY else
    if n == 220 then link.USB_LINUX_MMAPPED else
    if n == 224 then link.FC_2 else
    if n == 225 then link.FC_2_WITH_FRAME_DELIMS else
    if n == 226 then link.IPNET else
    if n == 227 then link.CAN_SOCKETCAN else
    if n == 228 then link.IPV4 else
    if n == 229 then link.IPV6 else
    if n == 230 then link.IEEE802_15_4_NOFCS else
    if n == 231 then link.DBUS else
    if n == 235 then link.DVB_CI else
    if n == 236 then link.MUX27010 else
    if n == 237 then link.STANAG_5066_D_PDU else
    if n == 239 then link.NFLOG else
    if n == 240 then link.NETANALYZER else
    if n == 241 then link.NETANALYZER_TRANSPARENT else
    if n == 242 then link.IPOIB else
    if n == 243 then link.MPEG_2_TS else
    if n == 244 then link.NG40 else
    if n == 245 then link.NFC_LLCP else
    if n == 247 then link.INFINIBAND else
    if n == 248 then link.SCTP else
    if n == 249 then link.USBPCAP else
    if n == 250 then link.RTAC_SERIAL else
    if n == 251 then link.BLUETOOTH_LE_LL else
    if n == 253 then link.NETLINK else
    if n == 254 then link.BLUETOOTH_LINUX_MONITOR else
    if n == 255 then link.BLUETOOTH_BREDR_BB else
    if n == 256 then link.BLUETOOTH_LE_LL_WITH_PHDR else
    if n == 257 then link.PROFIBUS_DL else
    if n == 258 then link.PKTAP else
    if n == 259 then link.EPON else
    if n == 260 then link.IPMI_HPM_2 else
    if n == 261 then link.ZWAVE_R1_R2 else
    if n == 262 then link.ZWAVE_R3 else
    if n == 263 then link.WATTSTOPPER_DLM else
    if n == 264 then link.ISO_14443 else
    if n == 265 then link.RDS else
    if n == 266 then link.USB_DARWIN else
    if n == 268 then link.SDLC else
    link.Unknown n

named_again : (d : DataLink) → IsNamed d → named_at (link_number d) ≡ d
unfolding named_at
named_again (link.Unknown n) named = absurd named
named_again _ named = refl

-- a link type is named or unknown
named_or_not : (d : DataLink) → IsNamed d ⊎ ((n : ℕ) × (d ≡ link.Unknown n))
named_or_not (link.Unknown n) = inr (n, refl)
named_or_not _ = inl tt

-- two plain link types with the same number are equal
pub plain_same : (d e : DataLink) → IsPlain d → IsPlain e → link_number d ≡ link_number e → d ≡ e
plain_same d e pd pe same =
    elim (named_or_not d) [
      | inl dn ↦ elim (named_or_not e) [
        | inl en ↦ sym (named_again d dn) ∙ ap named_at same ∙ named_again e en
        | inr eu ↦ let plain : IsPlain (link.Unknown eu.0) = subst IsPlain eu.1 pe in absurd (plain d dn (same ∙ ap link_number eu.1))
      ]
      | inr du ↦ elim (named_or_not e) [
        | inl en ↦ let plain : IsPlain (link.Unknown du.0) = subst IsPlain du.1 pd in absurd (plain e en (sym same ∙ ap link_number du.1))
        | inr eu ↦ let k : du.0 ≡ eu.0 = sym (ap link_number du.1) ∙ same ∙ ap link_number eu.1 in du.1 ∙ ap (λ (n : ℕ). link.Unknown n) k ∙ sym eu.1
      ]
    ]

named_plain : (d : DataLink) → IsNamed d → IsPlain d
named_plain (link.Unknown n) named = absurd named
named_plain _ named = tt

-- each number has a plain link type
pub link_of : (n : ℕ) → (d : DataLink) × Link n d
link_of n =
    elim (named_or_not (named_at n)) [
      | inl named ↦ elim (cases_eq (link_number (named_at n)) n) [
        | inl same ↦ (named_at n, record { number = same; plain = named_plain (named_at n) named })
        | inr other ↦ (link.Unknown n, record { number = refl; plain = λ d dn e. other (ap link_number (sym (ap named_at e) ∙ named_again d dn) ∙ e) })
      ]
      | inr unknown ↦ (link.Unknown n, record { number = refl; plain = λ d dn e. subst IsNamed (sym (named_again d dn) ∙ ap named_at e ∙ unknown.1) dn })
    ]

-- ---- equality

named_key : (d : DataLink) → IsNamed d → key d ≡ link_number d
named_key (link.Unknown n) named = absurd named
named_key _ named = refl

named_below : (d : DataLink) → IsNamed d → key d < 2 ^ 32
named_below (link.Unknown n) named = absurd named
named_below _ named = omega arith

unknown_key : (d : DataLink) (n : ℕ) → d ≡ link.Unknown n → key d ≡ n + 2 ^ 32
unknown_key d n e = ap key e

-- two link types with the same key are equal
pub key_same : (d e : DataLink) → key d ≡ key e → d ≡ e
key_same d e same =
    elim (named_or_not d) [
      | inl dn ↦ elim (named_or_not e) [
        | inl en ↦ sym (named_again d dn) ∙ ap named_at (sym (named_key d dn) ∙ same ∙ named_key e en) ∙ named_again e en
        | inr eu ↦ absurd (omega (arith, named_below d dn, same, unknown_key e eu.0 eu.1))
      ]
      | inr du ↦ elim (named_or_not e) [
        | inl en ↦ absurd (omega (arith, named_below e en, same, unknown_key d du.0 du.1))
        | inr eu ↦
            let k : du.0 ≡ eu.0 = omega (arith, same, unknown_key d du.0 du.1, unknown_key e eu.0 eu.1) in
            du.1 ∙ ap (λ (n : ℕ). link.Unknown n) k ∙ sym eu.1
      ]
    ]
