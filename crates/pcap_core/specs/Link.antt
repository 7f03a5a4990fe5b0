-- Link types and their numbers ('File Header', LinkType).
use Rattle.std.specs.Prelude.{◌≡◌, ◌+◌, ◌^◌, ℕ}
use Rattle.pcap_core.specs.declared.link.DataLink.{DataLink}
use Rattle.pcap_core.specs.declared.link.DataLink.TheVariants as link

-- link_number is the table of link types: it gives the number of each.
abbrev pub link_number : DataLink → ℕ
link_number link.NULL = 0
link_number link.ETHERNET = 1
link_number link.AX25 = 3
link_number link.IEEE802_5 = 6
link_number link.ARCNET_BSD = 7
link_number link.SLIP = 8
link_number link.PPP = 9
link_number link.FDDI = 10
link_number link.PPP_HDLC = 50
link_number link.PPP_ETHER = 51
link_number link.ATM_RFC1483 = 100
link_number link.RAW = 101
link_number link.C_HDLC = 104
link_number link.IEEE802_11 = 105
link_number link.FRELAY = 107
link_number link.LOOP = 108
link_number link.LINUX_SLL = 113
link_number link.LTALK = 114
link_number link.PFLOG = 117
link_number link.IEEE802_11_PRISM = 119
link_number link.IP_OVER_FC = 122
link_number link.SUNATM = 123
link_number link.IEEE802_11_RADIOTAP = 127
link_number link.ARCNET_LINUX = 129
link_number link.APPLE_IP_OVER_IEEE1394 = 138
link_number link.MTP2_WITH_PHDR = 139
link_number link.MTP2 = 140
link_number link.MTP3 = 141
link_number link.SCCP = 142
link_number link.DOCSIS = 143
link_number link.LINUX_IRDA = 144
link_number link.USER0 = 147
link_number link.USER1 = 148
link_number link.USER2 = 149
link_number link.USER3 = 150
link_number link.USER4 = 151
link_number link.USER5 = 152
link_number link.USER6 = 153
link_number link.USER7 = 154
link_number link.USER8 = 155
link_number link.USER9 = 156
link_number link.USER10 = 157
link_number link.USER11 = 158
link_number link.USER12 = 159
link_number link.USER13 = 160
link_number link.USER14 = 161
link_number link.USER15 = 162
link_number link.IEEE802_11_AVS = 163
link_number link.BACNET_MS_TP = 165
link_number link.PPP_PPPD = 166
link_number link.GPRS_LLC = 169
link_number link.GPF_T = 170
link_number link.GPF_F = 171
link_number link.LINUX_LAPD = 177
link_number link.BLUETOOTH_HCI_H4 = 187
link_number link.USB_LINUX = 189
link_number link.PPI = 192
link_number link.IEEE802_15_4 = 195
link_number link.SITA = 196
link_number link.ERF = 197
link_number link.BLUETOOTH_HCI_H4_WITH_PHDR = 201
link_number link.AX25_KISS = 202
link_number link.LAPD = 203
link_number link.PPP_WITH_DIR = 204
link_number link.C_HDLC_WITH_DIR = 205
link_number link.FRELAY_WITH_DIR = 206
link_number link.IPMB_LINUX = 209
link_number link.IEEE802_15_4_NONASK_PHY = 215
link_number link.USB_LINUX_MMAPPED = 220
link_number link.FC_2 = 224
link_number link.FC_2_WITH_FRAME_DELIMS = 225
link_number link.IPNET = 226
link_number link.CAN_SOCKETCAN = 227
link_number link.IPV4 = 228
link_number link.IPV6 = 229
link_number link.IEEE802_15_4_NOFCS = 230
link_number link.DBUS = 231
link_number link.DVB_CI = 235
link_number link.MUX27010 = 236
link_number link.STANAG_5066_D_PDU = 237
link_number link.NFLOG = 239
link_number link.NETANALYZER = 240
link_number link.NETANALYZER_TRANSPARENT = 241
link_number link.IPOIB = 242
link_number link.MPEG_2_TS = 243
link_number link.NG40 = 244
link_number link.NFC_LLCP = 245
link_number link.INFINIBAND = 247
link_number link.SCTP = 248
link_number link.USBPCAP = 249
link_number link.RTAC_SERIAL = 250
link_number link.BLUETOOTH_LE_LL = 251
link_number link.NETLINK = 253
link_number link.BLUETOOTH_LINUX_MONITOR = 254
link_number link.BLUETOOTH_BREDR_BB = 255
link_number link.BLUETOOTH_LE_LL_WITH_PHDR = 256
link_number link.PROFIBUS_DL = 257
link_number link.PKTAP = 258
link_number link.EPON = 259
link_number link.IPMI_HPM_2 = 260
link_number link.ZWAVE_R1_R2 = 261
link_number link.ZWAVE_R3 = 262
link_number link.WATTSTOPPER_DLM = 263
link_number link.ISO_14443 = 264
link_number link.RDS = 265
link_number link.USB_DARWIN = 266
link_number link.SDLC = 268
link_number (link.Unknown n) = n

-- IsNamed: the link type is a variant with a name, so that it is not `Unknown`.
abbrev pub IsNamed : DataLink → Type 0
IsNamed (link.Unknown n) = ⊥
IsNamed _ = Unit {0}

-- IsPlain: the link type is named, or it is unknown with a number that no named link type has.
abbrev pub IsPlain : DataLink → Type 0
IsPlain (link.Unknown n) = (named : DataLink) → IsNamed named → link_number named ≡ n → ⊥
IsPlain _ = Unit {0}

-- Link n d: n is the number of the link type d, and d is unknown only if no named link type has this number.
pub record Link (n : ℕ) (d : DataLink) : Type 0 where
  pub number : link_number d ≡ n
  pub plain : IsPlain d

-- key gives each link type a distinct number. The key of an unknown link type is above the numbers of the table.
abbrev pub key : DataLink → ℕ
key (link.Unknown n) = n + 2 ^ 32
key named = link_number named
